-- No object of a report or of a refusal has a float.
use Rattle.std.proofs.Common.{◌≡◌, ℕ, ◌++◌, Bool, true, false, ◌||◌, List, [], ◌∷◌, codes, Ordering, Less, Equal, Greater, nat_cmp, refl}
use Rattle.std.proofs.lemmas.Bool.{true≢false, or_from}
use Rattle.std.specs.Cmp.Lexicographic.{slice_cmp}
use Rattle.std.specs.Ordering.{match_ordering}
use Rattle.std.specs.List.{AllByRecursion}
use Rattle.serde_json.specs.Data.{Data, number, unsigned, string, Members, no_members, member, put}
use Rattle.serde_json.specs.Written.{has_float, members_have_float}
use Rattle.cca_base.specs.declared.model.Component.{Component}
use Rattle.cca_base.specs.declared.events.Reply.{Reply}
use Rattle.cca_base.specs.declared.events.Reply.TheVariants.{Idle, Send, Achieved, Unreachable}
use Rattle.cca_base.specs.declared.events.Shown.{Shown}
use Rattle.cca_base.specs.declared.events.Shown.TheVariants.{Estimated, Unexplained, Holding}
use Rattle.cca_base.specs.declared.events.TickReport.{TickReport}
use Rattle.cca_base.specs.declared.events.Refusal.{Refusal}
use Rattle.cca_base.specs.PlantModel.{PlantModel}
use Rattle.trace_text.specs.Json.{Member, with_members, modes_members, modes_object, reply_members, shown_members, report_object, bare_detail, refusal_object}
use Rattle.trace_text.specs.Refusals.{code_name}

first_of : (a b : Bool) → (a || b) ≡ false → a ≡ false
first_of true b h = h
first_of false b h = refl

second_of : (a b : Bool) → (a || b) ≡ false → b ≡ false
second_of true b h = absurd (true≢false h)
second_of false b h = h

one_of : (o : Ordering) (a b c : Members) → members_have_float a ≡ false → members_have_float b ≡ false → members_have_float c ≡ false → members_have_float (match_ordering o a b c) ≡ false
one_of Less a b c x y z = x
one_of Equal a b c x y z = y
one_of Greater a b c x y z = z

none_put : (k : List ℕ) (d : Data) (ms : Members) → has_float d ≡ false → members_have_float ms ≡ false → members_have_float (put k d ms) ≡ false
none_put k d no_members h none = or_from (has_float d) false h refl
none_put k d (member l e ms) h none =
    let here : has_float e ≡ false = first_of (has_float e) (members_have_float ms) none in
    let later : members_have_float ms ≡ false = second_of (has_float e) (members_have_float ms) none in
    one_of (slice_cmp nat_cmp k l) (member k d (member l e ms)) (member l d ms) (member l e (put k d ms)) (or_from (has_float d) (members_have_float (member l e ms)) h none)
    (or_from (has_float d) (members_have_float ms) h later) (or_from (has_float e) (members_have_float (put k d ms)) here (none_put k d ms h later))

-- no value of the list has one
abbrev HaveNone : List Member → Type 0
HaveNone = AllByRecursion (λ (p : Member). has_float p.1 ≡ false)

none_with : (ms : Members) (ps : List Member) → members_have_float ms ≡ false → HaveNone ps → members_have_float (with_members ms ps) ≡ false
none_with ms [] none h = none
none_with ms (p ∷ ps) none h = none_with (put p.0 p.1 ms) ps (none_put p.0 p.1 ms h.0 none) h.1

both_none : (ps qs : List Member) → HaveNone ps → HaveNone qs → HaveNone (ps ++ qs)
both_none [] qs h k = k
both_none (p ∷ ps) qs h k = (h.0, both_none ps qs h.1 k)

none_in_modes : (cs : List Component) (modes : List ℕ) → HaveNone (modes_members cs modes)
none_in_modes [] modes = tt
none_in_modes (c ∷ cs) [] = tt
none_in_modes (c ∷ cs) (mode ∷ modes) = (refl, none_in_modes cs modes)

modes_have_none : (cs : List Component) (modes : List ℕ) → has_float (modes_object cs modes) ≡ false
unfolding modes_object
modes_have_none cs modes = none_with no_members (modes_members cs modes) refl (none_in_modes cs modes)

none_in_reply : (m : PlantModel) (r : Reply) → HaveNone (reply_members m r)
none_in_reply m Idle = (refl, tt)
none_in_reply m (Send k) = (refl, (refl, tt))
none_in_reply m Achieved = (refl, tt)
none_in_reply m (Unreachable c mode) = (refl, (refl, (refl, tt)))

none_in_shown : (m : PlantModel) (s : Shown) → HaveNone (shown_members m s)
none_in_shown m (Estimated cost state reply) = both_none (reply_members m reply) _ (none_in_reply m reply) (refl, (modes_have_none m.components state.modes, tt))
none_in_shown m Unexplained = (refl, tt)
none_in_shown m Holding = (refl, tt)

pub no_float_in_report : (m : PlantModel) (r : TickReport) → has_float (report_object m r) ≡ false
unfolding report_object
no_float_in_report m r = none_with no_members _ refl (both_none (shown_members m r.shown) _ (none_in_shown m r.shown) (refl, tt))

pub no_float_in_refusal : (m : PlantModel) (line : ℕ) (r : Refusal) → has_float (refusal_object m line r) ≡ false
unfolding refusal_object
no_float_in_refusal m line r =
    let members : List Member = (codes "code", number (unsigned r.code)) ∷ (codes "detail", string (bare_detail m r)) ∷ (codes "line", number (unsigned line)) ∷ (codes "refused", string (code_name r.code)) ∷ [] in
    let none : HaveNone members = (refl, (refl, (refl, (refl, tt)))) in
    none_with no_members members refl none
