-- What the lines of a script say is what they ask for, both ways.
use Rattle.std.proofs.Common.{◌≡◌, ℕ, ◌+◌, List, [], ◌∷◌, Option, Some, None, Result, Ok, Err, refl, sym, ap, subst, ◌∙◌}
use Rattle.cca_base.specs.PlantModel.{PlantModel}
use Rattle.cca_base.specs.declared.cube.Pair.{Pair}
use Rattle.cca_base.specs.declared.events.Event.{Event}
use Rattle.line_forms.specs.Asked.{Effect, Asks, FollowsEffect}
use Rattle.line_forms.proofs.OneAsked.{asked_one}
use Rattle.model_form.specs.Limits.{line_code, unless_long}
use Rattle.model_form.specs.LinesEnds as lines
use Rattle.model_form.specs.LinesEnds.{AllRead, Asked, ReadsBy, SaysByCode, with_item}
use Rattle.script_reader.specs.EventLines.{event_line}
use Rattle.trace_laws.specs.Events.{PendingAfter, mirrored_after}
use Rattle.trace_laws.proofs.PendingKnown.{one_pending}
use Rattle.run_form.specs.Document.{Document, SaysBy, SaysScript, with_event}
use Rattle.run_form.specs.ScriptReading.{Bearing, IsSaid, Follows, Leads, Reads, as_kept, as_it_is, behind_event, document_of, its_event}

-- events are kept so of their lines, and this is the event of what is kept
module _ {R : Type 0} (keep : List ℕ → Event → R) (event : R → Event) (back : (l : List ℕ) (e : Event) → event (keep l e) ≡ e) (m : PlantModel) where
  -- lines are read so
  abbrev Said : Bearing → List ℕ → Result (Option R) ℕ → Type 0
  Said = IsSaid keep event m

  abbrev Goes : R → Bearing → ℕ → (Bearing → Asked R → Type 0) → Asked R → Type 0
  Goes = Follows keep event m

  pub follows : (r : R) (s : Bearing) (f : Effect Bearing R) (n : ℕ) (Later : Bearing → Asked R → Type 0) (a : Asked R) → Leads keep event m r s f → FollowsEffect f n Later a → Goes r s n Later a
  follows r s f n Later a (after, known, is) h = (after, known, subst (λ (z : Effect Bearing R). FollowsEffect z n Later a) is h)

  pub leads : (r : R) (s : Bearing) (n : ℕ) (Later : Bearing → Asked R → Type 0) (a : Asked R) → Goes r s n Later a → (f : Effect Bearing R) × Leads keep event m r s f × FollowsEffect f n Later a
  leads r s n Later a (after, known, h) = (Asks r (behind_event s (event r) after), (after, known, refl), h)

  leads_one : (r : R) (s : Bearing) (f g : Effect Bearing R) → Leads keep event m r s f → Leads keep event m r s g → f ≡ g
  leads_one r s f g (after, known, is) (other, also, was) =
      is ∙ ap (λ (z : List Pair). Asks r (behind_event s (event r) z)) (one_pending s.pending (event r) other after also known) ∙ sym was

  -- lines ask for one list of events
  pub reads_one : (ls : List (List ℕ)) (s : Bearing) (n : ℕ) (a c : Asked R) → Reads keep event m s n ls a → Reads keep event m s n ls c → a ≡ c
  reads_one = asked_one Said Goes (Leads keep event m) leads (λ s l a c h k. h ∙ sym k) leads_one

  -- ---- as documents

  -- the document of an event before others
  event_before : (l : List ℕ) (e : Event) (a : Asked R) → document_of keep event m (with_item (keep l e) a) ≡ with_event e (document_of keep event m a)
  event_before l e a = ap (λ (z : Event). with_event z (document_of keep event m a)) (back l e)

  pub code_says : (o : Option ℕ) (s : Bearing) (l : List ℕ) (said : Result (Option R) ℕ) → SaysByCode Said Goes o s l said → said ≡ as_kept (keep l) (unless_long o (event_line m s.pending s.mirrored l))
  code_says (Some code) s l said h = h
  code_says None s l said h = h

  says_code : (o : Option ℕ) (s : Bearing) (l : List ℕ) → SaysByCode Said Goes o s l (as_kept (keep l) (unless_long o (event_line m s.pending s.mirrored l)))
  says_code (Some code) s l = refl
  says_code None s l = refl

  module _ (s : Bearing) (n : ℕ) (l : List ℕ) (Later : Bearing → Asked R → Type 0) (After : List Pair → ℕ → Document → Type 0) where
    line_says : (v : Result (Option Event) ℕ) (a : Asked R) → ((y : Bearing) (rest : Asked R) → Later y rest → After y.pending y.mirrored (document_of keep event m rest))
        → ReadsBy Said Goes (as_kept (keep l) v) s n Later a → SaysBy v m s.pending s.mirrored n After (document_of keep event m a)
    line_says (Err code) a on h = ap (document_of keep event m) h
    line_says (Ok None) a on h = on s a h
    line_says (Ok (Some e)) a on (after, known, (rest, later, is)) =
        let here = on (behind_event s (event (keep l e)) after) rest later in (
          after,
          document_of keep event m rest,
          subst (λ (z : Event). PendingAfter s.pending z after) (back l e) known,
          subst (λ (z : Event). After after (mirrored_after s.mirrored z) (document_of keep event m rest)) (back l e) here,
          ap (document_of keep event m) is ∙ event_before l e rest,
        )

    line_reads : (v : Result (Option Event) ℕ) (r : Document) → ((y : Bearing) (d : Document) → After y.pending y.mirrored d → (a : Asked R) × Later y a × (d ≡ document_of keep event m a))
        → SaysBy v m s.pending s.mirrored n After r → (a : Asked R) × ReadsBy Said Goes (as_kept (keep l) v) s n Later a × (r ≡ document_of keep event m a)
    line_reads (Err code) r on h = (lines.refused_at n code, refl, h)
    line_reads (Ok None) r on h = on s r h
    line_reads (Ok (Some e)) r on (after, rest, known, later, is) =
        let (a, more, same) = on (behind_event s e after) rest later in
        let known_so = subst (λ (z : Event). PendingAfter s.pending z after) (sym (back l e)) known in
        let later_so = subst (λ (z : Event). Later (behind_event s z after) a) (sym (back l e)) more in
        (with_item (keep l e) a, (after, known_so, (a, later_so, refl)), is ∙ ap (with_event e) same ∙ sym (event_before l e a))

  -- what lines ask for they say
  pub reads_say : (ls : List (List ℕ)) (s : Bearing) (n : ℕ) (a : Asked R) → Reads keep event m s n ls a → SaysScript m s.pending s.mirrored n ls (document_of keep event m a)
  reads_say [] s n a h = ap (document_of keep event m) h
  reads_say (l ∷ ls) s n a (said, says, by) =
      let v = unless_long (line_code (n + 1) l) (event_line m s.pending s.mirrored l) in
      let later = λ (y : Bearing) (rest : Asked R). Reads keep event m y (n + 1) ls rest in
      line_says s (n + 1) l later (λ after mirrors d. SaysScript m after mirrors (n + 1) ls d) v a (λ y rest h. reads_say ls y (n + 1) rest h)
      (subst (λ (z : Result (Option R) ℕ). ReadsBy Said Goes z s (n + 1) later a) (code_says (line_code (n + 1) l) s l said says) by)

  -- and the other way round
  pub says_read : (ls : List (List ℕ)) (s : Bearing) (n : ℕ) (r : Document) → SaysScript m s.pending s.mirrored n ls r → (a : Asked R) × Reads keep event m s n ls a × (r ≡ document_of keep event m a)
  says_read [] s n r h = (record { items = []; ending = AllRead }, refl, h)
  says_read (l ∷ ls) s n r h =
      let v = unless_long (line_code (n + 1) l) (event_line m s.pending s.mirrored l) in
      let (a, by, is) = line_reads s (n + 1) l (λ y rest. Reads keep event m y (n + 1) ls rest) (λ after mirrors d. SaysScript m after mirrors (n + 1) ls d) v r (λ y d k. says_read ls y (n + 1) d k) h in
      (a, (as_kept (keep l) v, says_code (line_code (n + 1) l) s l, by), is)

-- ---- each event as it is

pub is_itself : (l : List ℕ) (e : Event) → its_event (as_it_is l e) ≡ e
is_itself l e = refl

pub kept_itself : (l : List ℕ) (v : Result (Option Event) ℕ) → as_kept (as_it_is l) v ≡ v
kept_itself l (Err code) = refl
kept_itself l (Ok None) = refl
kept_itself l (Ok (Some e)) = refl

-- a document is of the model of its script
pub script_model : (ls : List (List ℕ)) (m : PlantModel) (pending : List Pair) (mirrored n : ℕ) (r : Document) → SaysScript m pending mirrored n ls r → r.model ≡ m
script_model ls m pending mirrored n r h = let (a, reads, is) = says_read as_it_is its_event is_itself m ls (record { pending = pending; mirrored = mirrored }) n r h in ap (λ (d : Document). d.model) is

-- a script says one document
pub script_one : (ls : List (List ℕ)) (m : PlantModel) (pending : List Pair) (mirrored n : ℕ) (a b : Document) → SaysScript m pending mirrored n ls a → SaysScript m pending mirrored n ls b → a ≡ b
script_one ls m pending mirrored n a b h k =
    let s : Bearing = record { pending = pending; mirrored = mirrored } in
    let (x, reads, is) = says_read as_it_is its_event is_itself m ls s n a h in
    let (y, also, was) = says_read as_it_is its_event is_itself m ls s n b k in
    is ∙ ap (document_of as_it_is its_event m) (reads_one as_it_is its_event is_itself m ls s n x y reads also) ∙ sym was
