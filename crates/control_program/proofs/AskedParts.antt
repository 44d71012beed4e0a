-- What a runner's nodes ask is what its program asks, part by part, whatever the marks are.
use Rattle.std.proofs.Common.{◌≡◌, ◌↔◌, ◌+◌, ◌<◌, ◌≤◌, ℕ, zero, suc, Bool, true, false, List, [], ◌∷◌, ◌++◌, length, map, take, get_or, slice_get, slice_index_or, IsTrue, Option, Some, None, All, refl, sym, ap, subst, ◌∙◌, arith}
use Rattle.std.specs.List.{AllZip}
use Rattle.std.specs.Option.{option_map}
use Rattle.std.proofs.lemmas.List.{map-append, take_more}
use Rattle.std.proofs.lemmas.Option.{get_or_from_slice_get, same_Some, slice_get-get_or, slice_get-map, slice_get_within}
use Rattle.std.proofs.lemmas.List.Elements.{All-cons, All-contains, All-head, All-nil, All-push, All-tail, All-weaker}
use Rattle.list_laws.proofs.Elements.{all_left, all_right}
use Rattle.list_laws.proofs.Members.{at_member}
use Rattle.cca_base.specs.declared.cube.Pair.{Pair}
use Rattle.cca_base.specs.declared.formula.Formula.{Formula}
use Rattle.cca_base.specs.PlantModel.{PlantModel}
use Rattle.cca_base.specs.State.{Holds}
use Rattle.clause_form.specs.declared.clause.Clauses.{Clauses}
use Rattle.clause_form.specs.Formulas.{AreDenying}
use Rattle.control_laws.specs.Rest.{Rest as rest, Rests as rests}
use Rattle.control_program.specs.declared.nodes.Kind.{Kind}
use Rattle.control_program.specs.declared.nodes.Mark.{Mark}
use Rattle.control_program.specs.declared.nodes.Node.{Node}
use Rattle.control_program.specs.declared.nodes.Task.{Task}
use Rattle.control_program.specs.Flat.{Marked, Entry, laid, all_laid}
use Rattle.control_program.specs.Formulas.{formulas_left, all_formulas_left, IsWithin}
use Rattle.control_program.specs.Marks.{Tree, Trees, begun, all_begun, several}
use Rattle.control_program.specs.Places.{IsOfKind, choice_of, is_ended, marked, marked_kind, marked_task}
use Rattle.control_program.specs.Questions.{Question, Stand, Hold, Silent, Asks, IsAmong, IsDenied, MayAsk, all_asked_by, asked_by, kind_question, node_question, questions, task_question}
use Rattle.control_program.specs.Turned.{Chooses}
use Rattle.control_program.specs.Running.{RunsBy, control_of}
use Rattle.control_program.proofs.RunningLaws.{control_is}

no_item : (at : ℕ) (q : Question) → slice_get [] at ≡ Some q → ⊥
no_item at q h = cc

-- what an entry asks
abbrev marked_question : Marked → Question
marked_question (Marked.Reach b g) = Stand g
marked_question (Marked.Await b f) = Hold f
marked_question (Marked.Parts o b n) = Silent
marked_question (Marked.Choose c f) = Hold f
marked_question (Marked.Repeat n k) = Silent

abbrev entry_question : Entry → Question
entry_question e = marked_question e.0

asked_by-several : (o : Bool) (xs : rests) (qs : List Question) → asked_by (several o xs) qs ≡ Silent ∷ all_asked_by xs qs
unfolding asked_by
asked_by-several true xs qs = refl
asked_by-several false xs qs = refl

mutual
  unfolding laid begun asked_by

  asked-laid : (x : Tree) (ns : List Entry) → map entry_question (laid x ns) ≡ asked_by (begun x) (map entry_question ns)
  asked-laid (Tree.Reach b g) ns = refl
  asked-laid (Tree.Await b f) ns = refl
  asked-laid (Tree.Parts o b xs) ns = ap (λ l. Silent ∷ l) (asked-all_laid xs ns) ∙ sym (asked_by-several o (all_begun xs) (map entry_question ns))
  asked-laid (Tree.Choose c f x y) ns = ap (λ l. Hold f ∷ l) (asked-laid x (laid y ns) ∙ ap (asked_by (begun x)) (asked-laid y ns))
  asked-laid (Tree.Repeat n k x) ns = ap (λ l. Silent ∷ l) (asked-laid x ns)

  asked-all_laid : (xs : Trees) (ns : List Entry) → map entry_question (all_laid xs ns) ≡ all_asked_by (all_begun xs) (map entry_question ns)
  asked-all_laid Trees.none ns = refl
  asked-all_laid (Trees.more x xs) ns = asked-laid x (all_laid xs ns) ∙ ap (asked_by (begun x)) (asked-all_laid xs ns)

asked-task : (t : Task) (d : Bool) → marked_question (marked_task t d) ≡ task_question t
asked-task (Task.Reach g) d = refl
asked-task (Task.Await f) d = refl
asked-task (Task.Parts o n) d = refl

asked-kind : (kind : Kind) (k : Mark) → marked_question (marked_kind kind k) ≡ kind_question kind
asked-kind (Kind.Once t) k = asked-task t (is_ended k)
asked-kind (Kind.Choose f) k = refl
asked-kind (Kind.Repeat n) k = refl

asked-marked : (ns : List Node) (ms : List Mark) → length ns ≤ length ms → map entry_question (marked ns ms) ≡ map node_question ns
asked-marked [] ms e = refl
asked-marked (n ∷ ns) [] e = absurd (omega (arith, e))
asked-marked (n ∷ ns) (k ∷ ms) e =
    ap (λ q. q ∷ map entry_question (marked ns ms)) (asked-kind n.kind k) ∙ ap (λ l. node_question n ∷ l) (asked-marked ns ms (omega (arith, e)))

pub questions_are : (ns : List Node) (ms : List Mark) (over : Bool) → RunsBy ns ms over → map node_question ns ≡ questions (control_of ns ms).program
questions_are ns ms over r =
    sym (asked-marked ns ms r.full) ∙ ap (map entry_question) r.is ∙ asked-laid r.tree [] ∙ ap (λ c. questions c.program) (sym (control_is ns ms over r))

-- ---- what the node at a place asks

pub asks_at : (ns : List Node) (at : ℕ) (n : Node) → slice_get ns at ≡ Some n → slice_get (map node_question ns) at ≡ Some (node_question n)
asks_at ns at n h = slice_get-map node_question ns at ∙ ap (option_map node_question) h

pub asks_choice : (ns : List Node) (at : ℕ) (f : Formula) → IsOfKind ns at (Kind.Choose f) → Asks ns at f
asks_choice ns at f of = asks_at ns at (record { kind = Kind.Choose f; size = of.0 }) of.1

pub among_at : (ns : List Node) (at : ℕ) (g : List Pair) (n : ℕ) → slice_get (map node_question ns) at ≡ Some (Stand g) → All (IsAmong n) (map node_question ns) → All (λ p. p.item < n) g
among_at ns at g n h all = All-contains (IsAmong n) (map node_question ns) (Stand g) all (at_member (map node_question ns) at (Stand g) h)

-- a formula that a node asks has its denial at the node's place
pub denied_at : (m : PlantModel) (qs : List Question) (denials : List (Option Clauses)) (at : ℕ) (f : Formula) → AllZip (IsDenied m) qs denials → slice_get qs at ≡ Some (Hold f)
    → (d : Clauses) × (slice_get denials at ≡ Some (Some d)) × AreDenying m f d
denied_at m [] [] at f z h = absurd (no_item at (Hold f) h)
denied_at m [] (d ∷ ds) at f z h = absurd z
denied_at m (q ∷ qs) [] at f z h = absurd z
denied_at m (q ∷ qs) (d ∷ ds) zero f z h = here d (subst (λ v. IsDenied m v d) (same_Some q (Hold f) h) z.0)
  where
    here : (d : Option Clauses) → IsDenied m (Hold f) d → (c : Clauses) × (◌≡◌ {A = Option (Option Clauses)} (Some d) (Some (Some c))) × AreDenying m f c
    here None e = absurd e
    here (Some c) e = (c, refl, e)
denied_at m (q ∷ qs) (d ∷ ds) (suc at) f z h = denied_at m qs ds at f z.1 h

module _ (m : PlantModel) (nodes : List Node) (denials : List (Option Clauses)) (at : ℕ) (f : Formula) (z : AllZip (IsDenied m) (map node_question nodes) denials) (asks : Asks nodes at f) where
  denied : (d : Clauses) × (slice_get denials at ≡ Some (Some d)) × AreDenying m f d
  denied = denied_at m (map node_question nodes) denials at f z asks

  pub denied_inside : at < length denials
  denied_inside = slice_get_within denials at (Some denied.0) denied.1

  -- what stands there is the denial
  pub denied_found : (x : Option Clauses) (c : Clauses) → slice_index_or denials at x ≡ Some c → AreDenying m f c
  denied_found x c is = subst (AreDenying m f) (same_Some denied.0 c (sym (get_or_from_slice_get denials at (Some denied.0) x denied.1) ∙ is)) denied.2

  pub denied_there : (x : Option Clauses) → slice_index_or denials at x ≡ None → ⊥
  denied_there x is = let never : ◌≡◌ {A = Option Clauses} (Some denied.0) None = sym (get_or_from_slice_get denials at (Some denied.0) x denied.1) ∙ is in absurd cc

-- a choice that was not made takes its part by the formula
pub chooses_by : (m : PlantModel) (e : List ℕ) (mark : Mark) (f : Formula) (b : Bool) → (mark ≡ Mark.First → ⊥) → (mark ≡ Mark.Second → ⊥) → IsTrue b ↔ Holds m e f
    → Chooses m e (choice_of mark) f b
chooses_by m e Mark.Open f b first second h = h
chooses_by m e Mark.Ended f b first second h = h
chooses_by m e Mark.First f b first second h = absurd (first refl)
chooses_by m e Mark.Second f b first second h = absurd (second refl)
chooses_by m e (Mark.Rounds k) f b first second h = h

-- a room for pairs of some components has pairs of fewer
among_more : (n k : ℕ) (q : Question) → n ≤ k → IsAmong n q → IsAmong k q
among_more n k (Stand g) le h = All-weaker (λ p. p.item < n) (λ p. p.item < k) (λ p lt. omega (arith, lt, le)) g h
among_more n k (Hold f) le h = tt
among_more n k Silent le h = tt

pub pairs_more : (pairs : List Pair) (i past new : ℕ) (p : Pair) → i < length pairs → All (λ q. q.item < past) (take i pairs) → past ≤ new → (get_or pairs i p).item < new
    → All (λ q. q.item < new) (take (i + 1) pairs)
pairs_more pairs i past new p inside h le lt =
    subst (All (λ q. q.item < new)) (sym (take_more pairs i p inside))
    (All-push (λ q. q.item < new) (take i pairs) (get_or pairs i p) (among_more past new (Stand (take i pairs)) le h) lt)

pub among_push : (n k : ℕ) (qs : List Question) (q : Question) → n ≤ k → All (IsAmong n) qs → IsAmong k q → All (IsAmong k) (qs ++ q ∷ [])
among_push n k qs q le h new = All-push (IsAmong k) qs q (All-weaker (IsAmong n) (IsAmong k) (λ x. among_more n k x le) qs h) new

-- what one node more asks
pub asked_more : (ns : List Node) (i : ℕ) (n : Node) → i < length ns → n ≡ slice_index_or ns i n → map node_question (take (i + 1) ns) ≡ map node_question (take i ns) ++ node_question n ∷ []
asked_more ns i n inside is =
    ap (map node_question) (take_more ns i n inside) ∙ map-append node_question (take i ns) (get_or ns i n ∷ [])
    ∙ ap (λ v. map node_question (take i ns) ++ node_question v ∷ []) (sym is)

pub may_ask_at : (m : PlantModel) (ns : List Node) (i : ℕ) (n : Node) → i < length ns → n ≡ slice_index_or ns i n → All (MayAsk m) (map node_question ns) → MayAsk m (node_question n)
may_ask_at m ns i n inside is h =
    All-contains (MayAsk m) (map node_question ns) (node_question n) h
    (at_member (map node_question ns) i (node_question n) (asks_at ns i n (slice_get-get_or ns i n inside ∙ ap Some (sym is))))

-- one denial more
pub denied_push : (m : PlantModel) (qs : List Question) (denials : List (Option Clauses)) (q : Question) (d : Option Clauses) → AllZip (IsDenied m) qs denials → IsDenied m q d
    → AllZip (IsDenied m) (qs ++ q ∷ []) (denials ++ d ∷ [])
denied_push m [] [] q d z h = (h, tt)
denied_push m [] (x ∷ ds) q d z h = absurd z
denied_push m (x ∷ qs) [] q d z h = absurd z
denied_push m (x ∷ qs) (y ∷ ds) q d z h = (z.0, denied_push m qs ds q d z.1 h)

-- ---- formulas of the model may be asked

module _ (m : PlantModel) where
  mutual
    unfolding formulas_left asked_by

    may_ask : (x : rest) (qs : List Question) → All (IsWithin m) (formulas_left x) → All (MayAsk m) qs → All (MayAsk m) (asked_by x qs)
    may_ask (rest.Reach g) qs h k = All-cons (MayAsk m) (Stand g) qs tt k
    may_ask (rest.Await f) qs h k = All-cons (MayAsk m) (Hold f) qs (All-head (IsWithin m) f [] h) k
    may_ask (rest.Seq xs) qs h k = All-cons (MayAsk m) Silent (all_asked_by xs qs) tt (all_may_ask xs qs h k)
    may_ask (rest.Both xs) qs h k = All-cons (MayAsk m) Silent (all_asked_by xs qs) tt (all_may_ask xs qs h k)
    may_ask (rest.Choose f a b) qs h k =
        let first = all_left (IsWithin m) (f ∷ formulas_left a) (formulas_left b) h in
        All-cons (MayAsk m) (Hold f) (asked_by a (asked_by b qs)) (All-head (IsWithin m) f (formulas_left a) first)
        (may_ask a (asked_by b qs) (All-tail (IsWithin m) f (formulas_left a) first)
        (may_ask b qs (all_right (IsWithin m) (f ∷ formulas_left a) (formulas_left b) h) k))
    may_ask (rest.Repeat n body x) qs h k =
        All-cons (MayAsk m) Silent (asked_by body qs) tt (may_ask body qs (all_left (IsWithin m) (formulas_left body) (formulas_left x) h) k)

    all_may_ask : (xs : rests) (qs : List Question) → All (IsWithin m) (all_formulas_left xs) → All (MayAsk m) qs → All (MayAsk m) (all_asked_by xs qs)
    all_may_ask rests.none qs h k = k
    all_may_ask (rests.more x xs) qs h k =
        may_ask x (all_asked_by xs qs) (all_left (IsWithin m) (formulas_left x) (all_formulas_left xs) h)
        (all_may_ask xs qs (all_right (IsWithin m) (formulas_left x) (all_formulas_left xs) h) k)

  pub may_ask_all : (program : rest) → All (IsWithin m) (formulas_left program) → All (MayAsk m) (questions program)
  may_ask_all program h = may_ask program [] h (All-nil (MayAsk m))
