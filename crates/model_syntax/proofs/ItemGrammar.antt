-- An item is read from its spelling, and from nothing else.
use Rattle.std.proofs.Common.{◌≡◌, ◌<◌, length, ℕ, Bool, true, false, codes, List, [], ◌∷◌, ◌++◌, Option, Some, None, refl, sym, ap, subst, ◌∙◌, arith}
use Rattle.std.proofs.lemmas.Option.{same_Some}
use Rattle.text_base.proofs.LexemeLaws.{kind_is, lexeme_is}
use Rattle.list_laws.proofs.Tests.{cond_found}
use Rattle.text_base.specs.declared.token.Kind.{Kind}
use Rattle.text_base.specs.declared.token.Kind.TheVariants.{Number}
use Rattle.text_base.specs.Lexemes.{Lexeme, word, number, symbol, comma, same_kind, is_lexeme, next_is, name_word_at}
use Rattle.text_base.specs.Lists.{names_at, ended, name_list_spelled, names_spelled, AreNameWords}
use Rattle.text_base.specs.Chain.{◌>>=◌}
use Rattle.formula_syntax.specs.Lookups.{or_else}
use Rattle.model_syntax.specs.Items.{Ends, Item, Header, Component, Variable, Rule, Move, Failure, Script, number_at, ends_at, header_of, header_at, named_list_at, component_at, sensed_at, variable_at, move_at, failure_at, item_of, ends_spelled, sensed_spelled, move_word, line_spelled, IsSpelled}
use Rattle.text_base.proofs.ChainLaws.{bind_some, then, next_read, after}
use Rattle.text_base.proofs.NameGrammar.{reads_name, name_read, reads_names, names_read}
use Rattle.text_base.proofs.PairGrammar.{equals_sign}
use Rattle.text_base.proofs.FormGrammar.{ended_read, same_item, only, keyword}

abbrev arrow : Lexeme
arrow = symbol (codes "->")

-- this item is spelled so
abbrev IsWritten : List Lexeme → Item → Type 0
IsWritten ls i = (ls ≡ line_spelled i) × IsSpelled i

pub number_read : (ls : List Lexeme) (x : List ℕ × List Lexeme) → number_at ls ≡ Some x → ls ≡ number x.0 ∷ x.1
number_read [] x e = absurd cc
number_read (l ∷ ls) x e =
    let p = cond_found (same_kind l.0 Number) (Some (l.1, ls)) x e in
    let P : List ℕ × List Lexeme → Type 0 = λ y. l ∷ ls ≡ number y.0 ∷ y.1 in
    subst P (same_Some (l.1, ls) x p.1) (ap (λ (k : Kind). (k, l.1) ∷ ls) (kind_is l.0 Number p.0))

header_one : (second : Bool) (digits : List ℕ) (ls : List Lexeme) (i : Item) → line_spelled (Header second) ≡ word (codes "titan") ∷ number digits ∷ [] → header_of second digits ls ≡ Some i
    → IsWritten (word (codes "titan") ∷ ls) i
header_one second digits ls i spelled e =
    let a = bind_some (next_is (number digits) ls) (ended (Header second)) i e in
    let d = ended_read (Header second) i a.0 a.2 in
    let w = next_read (number digits) ls a.0 a.1 ∙ after (number digits) d.0 in
    same_item IsWritten (word (codes "titan") ∷ ls) (Header second) i d.1 (after (word (codes "titan")) w ∙ sym spelled, tt)

header_written : (ls : List Lexeme) (i : Item) → header_at ls ≡ Some i → IsWritten (word (codes "titan") ∷ ls) i
unfolding header_at
header_written ls i e = go (header_of false (codes "1") ls) refl e
  where
    go : (o : Option Item) → header_of false (codes "1") ls ≡ o → or_else o (header_of true (codes "2") ls) ≡ Some i → IsWritten (word (codes "titan") ∷ ls) i
    go (Some j) is e = header_one false (codes "1") ls i refl (is ∙ e)
    go None is e = header_one true (codes "2") ls i refl e

-- ---- a name with a list of names

abbrev names_then : List ℕ → List (List ℕ) × List Lexeme → Option (List ℕ × List (List ℕ) × List Lexeme)
names_then name names = Some (name, names.0, names.1)

abbrev name_then : List ℕ × List Lexeme → Option (List ℕ × List (List ℕ) × List Lexeme)
name_then name = next_is equals_sign name.1 >>= λ r. names_at r >>= names_then name.0

reads_list : (name first : List ℕ) (names : List (List ℕ)) (rest : List Lexeme) → AreNameWords (name ∷ []) → AreNameWords (first ∷ names) → next_is comma rest ≡ None
    → named_list_at (word name ∷ equals_sign ∷ name_list_spelled (first ∷ names) ++ rest) ≡ Some (name, first ∷ names, rest)
unfolding named_list_at
reads_list name first names rest h hs none =
    then (reads_name name (equals_sign ∷ names_spelled first names ++ rest) h.0) name_then ∙ then (reads_names first names rest hs none) (names_then name)

-- a list that was read is written so
abbrev IsList : List Lexeme → List ℕ × List (List ℕ) × List Lexeme → Type 0
IsList ls d = (ls ≡ word d.0 ∷ equals_sign ∷ name_list_spelled d.1 ++ d.2) × (0 < length d.1) × AreNameWords (d.0 ∷ []) × AreNameWords d.1

list_read : (ls : List Lexeme) (d : List ℕ × List (List ℕ) × List Lexeme) → named_list_at ls ≡ Some d → IsList ls d
unfolding named_list_at
list_read ls d e =
    let a = bind_some (name_word_at ls) name_then d e in
    let b = bind_some (next_is equals_sign a.0.1) (λ r. names_at r >>= names_then a.0.0) d a.2 in
    let n = bind_some (names_at b.0) (names_then a.0.0) d b.2 in
    let name = name_read ls a.0 a.1 in
    let names = names_read b.0 n.0 n.1 in
    let spelled = name.0 ∙ after (word a.0.0) (next_read equals_sign a.0.1 b.0 b.1 ∙ after equals_sign names.0) in
    subst (IsList ls) (same_Some (a.0.0, n.0.0, n.0.1) d n.2) (spelled, names.1, (name.1, tt), names.2)

-- ---- components

abbrev start_then : List ℕ → List (List ℕ) → List ℕ × List Lexeme → Option Item
start_then name modes start = ended (Component name modes start.0) start.1

abbrev modes_then : List ℕ × List (List ℕ) × List Lexeme → Option Item
modes_then list = next_is (word (codes "start")) list.2 >>= λ r. name_word_at r >>= start_then list.0 list.1

reads_component : (name : List ℕ) (modes : List (List ℕ)) (start : List ℕ)
    → IsSpelled (Component name modes start)
    → component_at (word name ∷ equals_sign ∷ name_list_spelled modes ++ word (codes "start") ∷ word start ∷ []) ≡ Some (Component name modes start)
unfolding component_at
reads_component name [] start h = absurd (omega (arith, h.0))
reads_component name (mode ∷ modes) start h =
    then (reads_list name mode modes (word (codes "start") ∷ word start ∷ []) (h.1.0, tt) h.2 refl) modes_then
    ∙ then (reads_name start [] h.1.1.0) (start_then name (mode ∷ modes))

component_written : (ls : List Lexeme) (i : Item) → component_at ls ≡ Some i → IsWritten (word (codes "component") ∷ ls) i
unfolding component_at
component_written ls i e =
    let a = bind_some (named_list_at ls) modes_then i e in
    let s = bind_some (next_is (word (codes "start")) a.0.2) (λ r. name_word_at r >>= start_then a.0.0 a.0.1) i a.2 in
    let z = bind_some (name_word_at s.0) (start_then a.0.0 a.0.1) i s.2 in
    let d = ended_read (Component a.0.0 a.0.1 z.0.0) i z.0.1 z.2 in
    let list = list_read ls a.0 a.1 in
    let start = name_read s.0 z.0 z.1 in
    let end = next_read (word (codes "start")) a.0.2 s.0 s.1 ∙ after (word (codes "start")) (start.0 ∙ after (word z.0.0) d.0) in
    let w = after (word (codes "component")) (list.0 ∙ ap (λ (x : List Lexeme). word a.0.0 ∷ equals_sign ∷ name_list_spelled a.0.1 ++ x) end) in
    same_item IsWritten (word (codes "component") ∷ ls) (Component a.0.0 a.0.1 z.0.0) i d.1 (w, (list.1, (list.2.0, (start.1, tt)), list.3))

-- ---- variables

abbrev values_then : List ℕ × List (List ℕ) × List Lexeme → Option Item
values_then list = sensed_at list.0 list.1 list.2

reads_sensed : (name : List ℕ) (values : List (List ℕ)) (sensed : Bool) → sensed_at name values (sensed_spelled sensed) ≡ Some (Variable name values sensed)
reads_sensed name values true = refl
reads_sensed name values false = refl

no_comma : (sensed : Bool) → next_is comma (sensed_spelled sensed) ≡ None
no_comma true = refl
no_comma false = refl

reads_variable : (name : List ℕ) (values : List (List ℕ)) (sensed : Bool)
    → IsSpelled (Variable name values sensed) → variable_at (word name ∷ equals_sign ∷ name_list_spelled values ++ sensed_spelled sensed) ≡ Some (Variable name values sensed)
unfolding variable_at
reads_variable name [] sensed h = absurd (omega (arith, h.0))
reads_variable name (value ∷ values) sensed h =
    then (reads_list name value values (sensed_spelled sensed) h.1 h.2 (no_comma sensed)) values_then ∙ reads_sensed name (value ∷ values) sensed

-- a variable is sensed or not
sensed_read : (name : List ℕ) (values : List (List ℕ)) (ls : List Lexeme) (i : Item) → sensed_at name values ls ≡ Some i → (sensed : Bool) × (ls ≡ sensed_spelled sensed) × (Variable name values sensed ≡ i)
sensed_read name values [] i e = (false, refl, same_Some (Variable name values false) i e)
sensed_read name values (l ∷ ls) i e =
    let p = cond_found (is_lexeme (word (codes "sensed")) l) (ended (Variable name values true) ls) i e in
    let d = ended_read (Variable name values true) i ls p.1 in
    (true, ap (λ (x : Lexeme). x ∷ ls) (lexeme_is (word (codes "sensed")) l p.0) ∙ after (word (codes "sensed")) d.0, d.1)

variable_written : (ls : List Lexeme) (i : Item) → variable_at ls ≡ Some i → IsWritten (word (codes "var") ∷ ls) i
unfolding variable_at
variable_written ls i e =
    let a = bind_some (named_list_at ls) values_then i e in
    let d = sensed_read a.0.0 a.0.1 a.0.2 i a.2 in
    let list = list_read ls a.0 a.1 in
    let w = after (word (codes "var")) (list.0 ∙ ap (λ (x : List Lexeme). word a.0.0 ∷ equals_sign ∷ name_list_spelled a.0.1 ++ x) d.1) in
    same_item IsWritten (word (codes "var") ∷ ls) (Variable a.0.0 a.0.1 d.0) i d.2 (w, (list.1, list.2, list.3))

-- ---- ends

abbrev target_then : List ℕ → List ℕ → List ℕ × List Lexeme → Option (Ends × List Lexeme)
target_then name source target = Some (record { name = name; source = source; target = target.0 }, target.1)

abbrev source_then : List ℕ → List ℕ × List Lexeme → Option (Ends × List Lexeme)
source_then name source = next_is arrow source.1 >>= λ r. name_word_at r >>= target_then name source.0

abbrev ends_then : List ℕ × List Lexeme → Option (Ends × List Lexeme)
ends_then name = name_word_at name.1 >>= source_then name.0

-- the words of the ends may stand in place of names
abbrev AreEndWords : Ends → Type 0
AreEndWords e = AreNameWords (e.name ∷ e.source ∷ e.target ∷ [])

reads_ends : (e : Ends) (rest : List Lexeme) → AreEndWords e → ends_at (ends_spelled e rest) ≡ Some (e, rest)
unfolding ends_at
reads_ends e rest h =
    then (reads_name e.name (word e.source ∷ arrow ∷ word e.target ∷ rest) h.0) ends_then
    ∙ then (reads_name e.source (arrow ∷ word e.target ∷ rest) h.1.0) (source_then e.name)
    ∙ then (reads_name e.target rest h.1.1.0) (target_then e.name e.source)

ends_read : (ls : List Lexeme) (x : Ends × List Lexeme) → ends_at ls ≡ Some x → (ls ≡ ends_spelled x.0 x.1) × AreEndWords x.0
unfolding ends_at
ends_read ls x e =
    let P : Ends × List Lexeme → Type 0 = λ y. (ls ≡ ends_spelled y.0 y.1) × AreEndWords y.0 in
    let a = bind_some (name_word_at ls) ends_then x e in
    let s = bind_some (name_word_at a.0.1) (source_then a.0.0) x a.2 in
    let r = bind_some (next_is arrow s.0.1) (λ r. name_word_at r >>= target_then a.0.0 s.0.0) x s.2 in
    let t = bind_some (name_word_at r.0) (target_then a.0.0 s.0.0) x r.2 in
    let name = name_read ls a.0 a.1 in
    let source = name_read a.0.1 s.0 s.1 in
    let to = next_read arrow s.0.1 r.0 r.1 in
    let target = name_read r.0 t.0 t.1 in
    subst P (same_Some _ x t.2)
    (name.0 ∙ after (word a.0.0) (source.0 ∙ after (word s.0.0) (to ∙ after arrow target.0)), (name.1, (source.1, (target.1, tt))))

-- ---- moves

abbrev command_then : Bool → Ends → List ℕ × List Lexeme → Option Item
command_then repair ends command = next_is (word (codes "when")) command.1 >>= λ guard. Some (Move repair ends command.0 guard)

abbrev move_then : Bool → Ends × List Lexeme → Option Item
move_then repair ends = next_is (word (codes "by")) ends.1 >>= λ r. name_word_at r >>= command_then repair ends.0

reads_move : (repair : Bool) (ends : Ends) (command : List ℕ) (guard : List Lexeme) → IsSpelled (Move repair ends command guard)
    → move_at repair (ends_spelled ends (word (codes "by") ∷ word command ∷ word (codes "when") ∷ guard)) ≡ Some (Move repair ends command guard)
unfolding move_at
reads_move repair ends command guard h =
    then (reads_ends ends (word (codes "by") ∷ word command ∷ word (codes "when") ∷ guard) (h.0, (h.1.0, (h.1.1.0, tt)))) (move_then repair)
    ∙ then (reads_name command (word (codes "when") ∷ guard) h.1.1.1.0) (command_then repair ends)

move_written : (repair : Bool) (ls : List Lexeme) (i : Item) → move_at repair ls ≡ Some i → IsWritten (word (move_word repair) ∷ ls) i
unfolding move_at
move_written repair ls i e =
    let a = bind_some (ends_at ls) (move_then repair) i e in
    let r = bind_some (next_is (word (codes "by")) a.0.1) (λ r. name_word_at r >>= command_then repair a.0.0) i a.2 in
    let c = bind_some (name_word_at r.0) (command_then repair a.0.0) i r.2 in
    let g = bind_some (next_is (word (codes "when")) c.0.1) (λ guard. Some (Move repair a.0.0 c.0.0 guard)) i c.2 in
    let ends = ends_read ls a.0 a.1 in
    let by = next_read (word (codes "by")) a.0.1 r.0 r.1 in
    let command = name_read r.0 c.0 c.1 in
    let when = next_read (word (codes "when")) c.0.1 g.0 g.1 in
    let behind = by ∙ after (word (codes "by")) (command.0 ∙ after (word c.0.0) when) in
    let w = after (word (move_word repair)) (ends.0 ∙ ap (ends_spelled a.0.0) behind) in
    same_item IsWritten (word (move_word repair) ∷ ls) (Move repair a.0.0 c.0.0 g.0) i (same_Some _ i g.2) (w, (ends.1.0, (ends.1.1.0, (ends.1.1.1.0, (command.1, tt)))))

-- ---- failures

abbrev cost_then : Ends → List ℕ × List Lexeme → Option Item
cost_then ends cost = ended (Failure ends cost.0) cost.1

abbrev failure_then : Ends × List Lexeme → Option Item
failure_then ends = next_is (word (codes "cost")) ends.1 >>= λ r. number_at r >>= cost_then ends.0

reads_failure : (ends : Ends) (cost : List ℕ) → IsSpelled (Failure ends cost) → failure_at (ends_spelled ends (word (codes "cost") ∷ number cost ∷ [])) ≡ Some (Failure ends cost)
unfolding failure_at
reads_failure ends cost h = then (reads_ends ends (word (codes "cost") ∷ number cost ∷ []) h) failure_then

failure_written : (ls : List Lexeme) (i : Item) → failure_at ls ≡ Some i → IsWritten (word (codes "fail") ∷ ls) i
unfolding failure_at
failure_written ls i e =
    let a = bind_some (ends_at ls) failure_then i e in
    let r = bind_some (next_is (word (codes "cost")) a.0.1) (λ r. number_at r >>= cost_then a.0.0) i a.2 in
    let c = bind_some (number_at r.0) (cost_then a.0.0) i r.2 in
    let d = ended_read (Failure a.0.0 c.0.0) i c.0.1 c.2 in
    let ends = ends_read ls a.0 a.1 in
    let keyword = next_read (word (codes "cost")) a.0.1 r.0 r.1 in
    let cost = number_read r.0 c.0 c.1 in
    let behind = keyword ∙ after (word (codes "cost")) (cost ∙ after (number c.0.0) d.0) in
    let w = after (word (codes "fail")) (ends.0 ∙ ap (ends_spelled a.0.0) behind) in
    same_item IsWritten (word (codes "fail") ∷ ls) (Failure a.0.0 c.0.0) i d.1 (w, ends.1)

-- ---- lines

pub item_again : (i : Item) → IsSpelled i → item_of (line_spelled i) ≡ Some i
unfolding header_at
item_again (Header false) h = refl
item_again (Header true) h = refl
item_again (Component name modes start) h = reads_component name modes start h
item_again (Variable name values sensed) h = reads_variable name values sensed h
item_again (Rule formula) h = refl
item_again (Move true ends command guard) h = reads_move true ends command guard h
item_again (Move false ends command guard) h = reads_move false ends command guard h
item_again (Failure ends cost) h = reads_failure ends cost h
item_again Script h = refl

no_item : {P : Type 0} (i : Item) → ◌≡◌ {A = Option Item} None (Some i) → P
no_item i e = absurd cc

rule_written : (ls : List Lexeme) (i : Item) → Some (Rule ls) ≡ Some i → IsWritten (word (codes "rule") ∷ ls) i
rule_written ls i e = same_item IsWritten (word (codes "rule") ∷ ls) (Rule ls) i (same_Some (Rule ls) i e) (refl, tt)

pub item_written : (ls : List Lexeme) (i : Item) → item_of ls ≡ Some i → (ls ≡ line_spelled i) × IsSpelled i
item_written [] i e = absurd cc
item_written (l ∷ ls) i e =
    keyword IsWritten (codes "titan") l ls i _ _ e (header_written ls i)
    (λ e. keyword IsWritten (codes "component") l ls i _ _ e (component_written ls i)
    (λ e. keyword IsWritten (codes "var") l ls i _ _ e (variable_written ls i)
    (λ e. keyword IsWritten (codes "rule") l ls i _ _ e (rule_written ls i)
    (λ e. keyword IsWritten (codes "move") l ls i _ _ e (move_written false ls i)
    (λ e. keyword IsWritten (codes "repair") l ls i _ _ e (move_written true ls i)
    (λ e. keyword IsWritten (codes "fail") l ls i _ _ e (failure_written ls i)
    (λ e. keyword IsWritten (codes "script") l ls i _ _ e (λ h. only IsWritten (word (codes "script")) Script i ls h (refl, tt))
    (λ e. no_item i e))))))))
