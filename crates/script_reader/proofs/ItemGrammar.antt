-- An item is read from its spelling, and from nothing else.
use Rattle.std.proofs.Common.{◌≡◌, ℕ, ◌<◌, cond, codes, List, [], ◌∷◌, ◌++◌, length, Option, Some, None, refl, sym, ap, subst, ◌∙◌, append-nil, arith}
use Rattle.std.specs.Option.{option_map}
use Rattle.std.proofs.lemmas.Option.{same_Some}
use Rattle.text_base.specs.Lexemes.{Lexeme, word, is_lexeme, name_word_at}
use Rattle.text_base.specs.Lists.{ended}
use Rattle.text_base.specs.Pairs.{NamedPair, pair_at, pairs_at, pair_spelled, pairs_spelled, pair_list_spelled, ArePairWords}
use Rattle.text_base.proofs.ChainLaws.{bind_some, then, after}
use Rattle.text_base.proofs.FormGrammar.{ended_read, same_item, only, keyword}
use Rattle.text_base.proofs.NameGrammar.{reads_name, name_read}
use Rattle.text_base.proofs.PairGrammar.{pair_grammar, reads_pairs, pairs_read}
use Rattle.script_reader.specs.Items.{Item, Goal, Clear, Observe, Fault, Mirror, Reset, Tick, only_pairs, pairs_item, fault_at, mirror_at, item_of, spelling, IsSpelled}

-- this item is spelled so
abbrev IsWritten : List Lexeme → Item → Type 0
IsWritten ls i = (ls ≡ spelling i) × IsSpelled i

-- ---- lists of pairs

abbrev pairs_then : List NamedPair × List Lexeme → Option (List NamedPair)
pairs_then pairs = ended pairs.0 pairs.1

pub reads_only_pairs : (ps : List NamedPair) → 0 < length ps → ArePairWords ps → only_pairs (pair_list_spelled ps) ≡ Some ps
unfolding only_pairs
reads_only_pairs [] some h = absurd (omega (arith, some))
reads_only_pairs (p ∷ ps) some h = then (ap pairs_at (sym (append-nil (pairs_spelled p ps))) ∙ reads_pairs p ps [] h refl) pairs_then

pub only_pairs_read : (ls : List Lexeme) (ps : List NamedPair) → only_pairs ls ≡ Some ps → (ls ≡ pair_list_spelled ps) × (0 < length ps) × ArePairWords ps
unfolding only_pairs
only_pairs_read ls ps e =
    let P : List NamedPair → Type 0 = λ qs. (ls ≡ pair_list_spelled qs) × (0 < length qs) × ArePairWords qs in
    let a = bind_some (pairs_at ls) pairs_then ps e in
    let d = ended_read a.0.0 ps a.0.1 a.2 in
    let pairs = pairs_read ls a.0 a.1 in
    subst P d.1 (pairs.0 ∙ ap (λ (x : List Lexeme). pair_list_spelled a.0.0 ++ x) d.0 ∙ append-nil (pair_list_spelled a.0.0), pairs.1, pairs.2)

module _ (form : List NamedPair → Item) where
  reads_form : (ps : List NamedPair) → 0 < length ps → ArePairWords ps → pairs_item form (pair_list_spelled ps) ≡ Some (form ps)
  reads_form ps some h = ap (option_map form) (reads_only_pairs ps some h)

  form_of : (o : Option (List NamedPair)) (i : Item) → option_map form o ≡ Some i → (ps : List NamedPair) × (o ≡ Some ps) × (form ps ≡ i)
  form_of None i e = absurd cc
  form_of (Some ps) i e = (ps, refl, same_Some (form ps) i e)

  -- the pairs of an item that was read so
  form_read : (ls : List Lexeme) (i : Item) → pairs_item form ls ≡ Some i → (ps : List NamedPair) × (form ps ≡ i) × (ls ≡ pair_list_spelled ps) × (0 < length ps) × ArePairWords ps
  form_read ls i e =
      let a = form_of (only_pairs ls) i e in
      let r = only_pairs_read ls a.0 a.1 in
      (a.0, a.2, r.0, r.1, r.2)

  -- that item is written so behind its word
  form_written : (l : Lexeme) → ((ps : List NamedPair) → 0 < length ps → ArePairWords ps → IsWritten (l ∷ pair_list_spelled ps) (form ps)) → (ls : List Lexeme) (i : Item) → pairs_item form ls ≡ Some i → IsWritten (l ∷ ls) i
  form_written l written ls i e =
      let r = form_read ls i e in
      same_item IsWritten (l ∷ ls) (form r.0) i r.1 (subst (λ x. IsWritten (l ∷ x) (form r.0)) (sym r.2) (written r.0 r.3 r.4))

goal_written : (ls : List Lexeme) (i : Item) → pairs_item Goal ls ≡ Some i → IsWritten (word (codes "goal") ∷ ls) i
goal_written = form_written Goal (word (codes "goal")) (λ ps some h. (refl, (some, h)))

observe_written : (ls : List Lexeme) (i : Item) → pairs_item Observe ls ≡ Some i → IsWritten (word (codes "observe") ∷ ls) i
observe_written = form_written Observe (word (codes "observe")) (λ ps some h. (refl, (some, h)))

-- ---- one pair, and one name

abbrev fault_then : NamedPair × List Lexeme → Option Item
fault_then pair = ended (Fault pair.0) pair.1

reads_fault : (p : NamedPair) → IsSpelled (Fault p) → fault_at (pair_spelled p) ≡ Some (Fault p)
unfolding fault_at
reads_fault p h = then (pair_grammar.reads p [] h.0) fault_then

fault_written : (ls : List Lexeme) (i : Item) → fault_at ls ≡ Some i → IsWritten (word (codes "fault") ∷ ls) i
unfolding fault_at
fault_written ls i e =
    let a = bind_some (pair_at ls) fault_then i e in
    let d = ended_read (Fault a.0.0) i a.0.1 a.2 in
    let pair = pair_grammar.read ls a.0 a.1 in
    let w = pair.0 ∙ ap (λ (x : List Lexeme). pair_spelled a.0.0 ++ x) d.0 in
    same_item IsWritten (word (codes "fault") ∷ ls) (Fault a.0.0) i d.1 (after (word (codes "fault")) w, (pair.1, tt))

abbrev mirror_then : List ℕ × List Lexeme → Option Item
mirror_then name = ended (Mirror name.0) name.1

reads_mirror : (name : List ℕ) → IsSpelled (Mirror name) → mirror_at (word name ∷ []) ≡ Some (Mirror name)
unfolding mirror_at
reads_mirror name h = then (reads_name name [] h.0) mirror_then

mirror_written : (ls : List Lexeme) (i : Item) → mirror_at ls ≡ Some i → IsWritten (word (codes "mirror") ∷ ls) i
unfolding mirror_at
mirror_written ls i e =
    let a = bind_some (name_word_at ls) mirror_then i e in
    let d = ended_read (Mirror a.0.0) i a.0.1 a.2 in
    let name = name_read ls a.0 a.1 in
    let w = name.0 ∙ after (word a.0.0) d.0 in
    same_item IsWritten (word (codes "mirror") ∷ ls) (Mirror a.0.0) i d.1 (after (word (codes "mirror")) w, (name.1, tt))

-- ---- lines

pub item_again : (i : Item) → IsSpelled i → item_of (spelling i) ≡ Some i
item_again (Goal ps) h = reads_form Goal ps h.0 h.1
item_again Clear h = refl
item_again (Observe ps) h = reads_form Observe ps h.0 h.1
item_again (Fault p) h = reads_fault p h
item_again (Mirror name) h = reads_mirror name h
item_again Reset h = refl
item_again Tick h = refl

-- the tests that are left, from one on
abbrev pub from_tick : Lexeme → List Lexeme → Option Item
from_tick l ls = cond (is_lexeme (word (codes "tick")) l) (ended Tick ls) None

abbrev pub from_reset : Lexeme → List Lexeme → Option Item
from_reset l ls = cond (is_lexeme (word (codes "reset")) l) (ended Reset ls) (from_tick l ls)

abbrev pub from_mirror : Lexeme → List Lexeme → Option Item
from_mirror l ls = cond (is_lexeme (word (codes "mirror")) l) (mirror_at ls) (from_reset l ls)

abbrev pub from_fault : Lexeme → List Lexeme → Option Item
from_fault l ls = cond (is_lexeme (word (codes "fault")) l) (fault_at ls) (from_mirror l ls)

abbrev pub from_observe : Lexeme → List Lexeme → Option Item
from_observe l ls = cond (is_lexeme (word (codes "observe")) l) (pairs_item Observe ls) (from_fault l ls)

abbrev from_clear : Lexeme → List Lexeme → Option Item
from_clear l ls = cond (is_lexeme (word (codes "clear")) l) (ended Clear ls) (from_observe l ls)

module _ (l : Lexeme) (ls : List Lexeme) (i : Item) where
  tick_or : from_tick l ls ≡ Some i → IsWritten (l ∷ ls) i
  tick_or e = keyword IsWritten (codes "tick") l ls i (ended Tick ls) None e (λ h. only IsWritten (word (codes "tick")) Tick i ls h (refl, tt)) (λ h. absurd cc)

  reset_or : from_reset l ls ≡ Some i → IsWritten (l ∷ ls) i
  reset_or e = keyword IsWritten (codes "reset") l ls i (ended Reset ls) (from_tick l ls) e (λ h. only IsWritten (word (codes "reset")) Reset i ls h (refl, tt)) tick_or

  mirror_or : from_mirror l ls ≡ Some i → IsWritten (l ∷ ls) i
  mirror_or e = keyword IsWritten (codes "mirror") l ls i (mirror_at ls) (from_reset l ls) e (mirror_written ls i) reset_or

  fault_or : from_fault l ls ≡ Some i → IsWritten (l ∷ ls) i
  fault_or e = keyword IsWritten (codes "fault") l ls i (fault_at ls) (from_mirror l ls) e (fault_written ls i) mirror_or

  observe_or : from_observe l ls ≡ Some i → IsWritten (l ∷ ls) i
  observe_or e = keyword IsWritten (codes "observe") l ls i (pairs_item Observe ls) (from_fault l ls) e (observe_written ls i) fault_or

  clear_or : from_clear l ls ≡ Some i → IsWritten (l ∷ ls) i
  clear_or e = keyword IsWritten (codes "clear") l ls i (ended Clear ls) (from_observe l ls) e (λ h. only IsWritten (word (codes "clear")) Clear i ls h (refl, tt)) observe_or

pub item_written : (ls : List Lexeme) (i : Item) → item_of ls ≡ Some i → (ls ≡ spelling i) × IsSpelled i
item_written [] i e = absurd cc
item_written (l ∷ ls) i e = keyword IsWritten (codes "goal") l ls i (pairs_item Goal ls) (from_clear l ls) e (goal_written ls i) (clear_or l ls i)
