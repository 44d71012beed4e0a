-- What the machine of a form prints for its lines is what is told of what they ask for, both ways.
use Rattle.std.proofs.Common.{◌≡◌, ℕ, ◌+◌, Bool, List, [], ◌∷◌, ◌++◌, length, Option, Some, None, Result, Ok, Err, refl, sym, ap, subst, ◌∙◌, append-nil, append_assoc}
use Rattle.cca_base.specs.PlantModel.{PlantModel}
use Rattle.cca_base.specs.Refusals.{bare}
use Rattle.line_machine.specs.Completes.{Completes}
use Rattle.line_machine.specs.Next.{Next, GoesOn, Stops}
use Rattle.line_machine.specs.Runs.{length_code, Closes}
use Rattle.line_machine.specs.declared.machine.End.{End}
use Rattle.line_machine.specs.declared.machine.End.TheVariants.{Ended, Refused}
use Rattle.model_form.specs.Answers.{Answer, answer}
use Rattle.model_form.specs.Limits.{line_code}
use Rattle.model_form.specs.LinesEnds.{AllRead, Asked, ReadsBy, ReadsLines, SaysByCode, refused_at, with_item}
use Rattle.trace_text.specs.Json.{refusal_text}
use Rattle.line_forms.specs.Asked.{Effect, Sets, Asks, Denies, FollowsEffect, ServesEffect, Shown, Tells, TellsLines, ending_by}
use Rattle.line_forms.specs.LinesDo.{code_at, SaidByCode, DoBy, LinesDo}
use Rattle.line_forms.specs.LinesMachine.{lines_machine}
use Rattle.line_forms.specs.LineMeaning.{LineMeaning}
use Rattle.line_forms.proofs.Done.{ended, ends}

module _ {L R S T X : Type 0} (form : LineMeaning L R) (json : Bool) (m : PlantModel) (at : T → S → L)
    (IsSaid : S → List ℕ → Result (Option R) ℕ → Type 0) (Follows : R → S → ℕ → (S → Asked X → Type 0) → Asked X → Type 0)
    (Leads : R → S → Effect S X → Type 0) (Shows : T → X → T → List ℕ → Type 0) (Ties : T → S → Type 0) (closing : T → List ℕ) (k : Tells form json m at IsSaid Follows Leads Shows Ties closing) where
  -- the lines are told so
  abbrev Told : T → S → ℕ → List (List ℕ) → End → List ℕ → Type 0
  Told t s n ls e text = TellsLines form json m at IsSaid Follows Leads Shows Ties closing t s n ls e text

  -- the line of a refusal
  abbrev refusal : ℕ → ℕ → List ℕ
  refusal n code = refusal_text json m n (bare code)

  refusal_is : (t : T) (s : S) (n code : ℕ) → refusal_text (form.is_json (at t s)) (form.model_of (at t s)) n (bare code) ≡ refusal n code
  refusal_is t s n code = λ i. refusal_text (k.words t s i) (k.model t s i) n (bare code)

  said_says : (o : Option ℕ) (t : T) (s : S) (l : List ℕ) (said : Result (Option R) ℕ) → Ties t s → SaidByCode form o (at t s) l said → SaysByCode IsSaid Follows o s l said
  said_says (Some code) t s l said tie h = h
  said_says None t s l said tie h = k.says t s l said tie h

  says_said : (o : Option ℕ) (t : T) (s : S) (l : List ℕ) (said : Result (Option R) ℕ) → Ties t s → SaysByCode IsSaid Follows o s l said → SaidByCode form o (at t s) l said
  says_said (Some code) t s l said tie h = h
  says_said None t s l said tie h = k.said t s l said tie h

  -- a line has the code that all forms of such lines give it
  code_is : (t : T) (s : S) (n : ℕ) (l : List ℕ) → code_at form (at t s) n l ≡ line_code n l
  code_is t s n l = ap (λ (limit : ℕ). length_code limit n (length l)) (k.limit t s)

  line_says : (t : T) (s : S) (n : ℕ) (l : List ℕ) (said : Result (Option R) ℕ) → Ties t s → SaidByCode form (code_at form (at t s) n l) (at t s) l said → SaysByCode IsSaid Follows (line_code n l) s l said
  line_says t s n l said tie h = said_says (line_code n l) t s l said tie (subst (λ (o : Option ℕ). SaidByCode form o (at t s) l said) (code_is t s n l) h)

  says_line : (t : T) (s : S) (n : ℕ) (l : List ℕ) (said : Result (Option R) ℕ) → Ties t s → SaysByCode IsSaid Follows (line_code n l) s l said → SaidByCode form (code_at form (at t s) n l) (at t s) l said
  says_line t s n l said tie h = subst (λ (o : Option ℕ). SaidByCode form o (at t s) l said) (sym (code_is t s n l)) (says_said (line_code n l) t s l said tie h)

  -- a program that has ended looks at no line
  stopped_do : (e : End) (n : ℕ) (ls : List (List ℕ)) (items : List R) (u : Next L) (a : List ℕ) → LinesDo form (Stops e) n ls items u a → (items ≡ []) × (u ≡ Stops e) × (a ≡ [])
  stopped_do e n [] items u a h = h
  stopped_do e n (l ∷ ls) items u a h = h

  stays_do : (e : End) (n : ℕ) (ls : List (List ℕ)) → LinesDo form (Stops e) n ls [] (Stops e) []
  stays_do e n [] = (refl, refl, refl)
  stays_do e n (l ∷ ls) = (refl, refl, refl)

  -- ---- from the machine to what is told

  module _ (n : ℕ) (l : List ℕ) (ls : List (List ℕ)) (t : T) (s : S) (tie : Ties t s) (u : Next L) (c : ℕ) (e : End) (last : List ℕ) (closes : Closes (lines_machine form) u c e last)
      (on : (v : T) (y : S) → Ties v y → (items : List R) (a : List ℕ) → LinesDo form (GoesOn (at v y)) (n + 1) ls items u a → Told v y (n + 1) ls e (a ++ last)) where
    -- what the later lines ask for
    abbrev Later : S → Asked X → Type 0
    Later y rest = ReadsLines IsSaid Follows y (n + 1) ls rest

    -- the line says so
    abbrev Says : Result (Option R) ℕ → Type 0
    Says said = SaysByCode IsSaid Follows (line_code (n + 1) l) s l said

    -- where the program has ended with a refusal, nothing stands behind it
    closed : u ≡ Stops Refused → (e ≡ Refused) × (last ≡ [])
    closed is = subst (λ (v : Next L). Closes (lines_machine form) v c e last) is closes

    refused_told : (said : Result (Option R) ℕ) (code : ℕ) (text : List ℕ) → Says said → ReadsBy IsSaid Follows said s (n + 1) Later (refused_at (n + 1) code) → e ≡ Refused → text ≡ refusal (n + 1) code → Told t s n (l ∷ ls) e text
    refused_told said code text says by end is =
        record { asked = refused_at (n + 1) code; told = []; last = t; reads = (said, says, by); shown = (refl, refl); end = end; parts = is }

    effect_told : (r : R) (f : Effect S X) (v : Next L) (first rest : List ℕ) (more : List R) → Says (Ok (Some r)) → Leads r s f → ServesEffect json m at Shows f t (n + 1) v first → LinesDo form v (n + 1) ls more u rest
        → Told t s n (l ∷ ls) e ((first ++ rest) ++ last)
    effect_told r (Sets y) v first rest more says leads does later =
        let p = on t y (k.sets r t s y tie leads) more rest (subst (λ (w : Next L). LinesDo form w (n + 1) ls more u rest) does.0 later) in
        record {
          asked = p.asked;
          told = p.told;
          last = p.last;
          reads = (Ok (Some r), says, k.follows r s (Sets y) (n + 1) Later p.asked leads p.reads);
          shown = p.shown;
          end = p.end;
          parts = ap (λ (z : List ℕ). (z ++ rest) ++ last) does.1 ∙ p.parts;
        }
    effect_told r (Asks x y) v first rest more says leads (w, shows, next) later =
        let p = on w y (k.asks r t w s y x first tie leads shows) more rest (subst (λ (z : Next L). LinesDo form z (n + 1) ls more u rest) next later) in
        record {
          asked = with_item x p.asked;
          told = first ++ p.told;
          last = p.last;
          reads = (Ok (Some r), says, k.follows r s (Asks x y) (n + 1) Later (with_item x p.asked) leads (p.asked, p.reads, refl));
          shown = (w, first, p.told, shows, p.shown, refl);
          end = p.end;
          parts = append_assoc first rest last ∙ ap (λ (z : List ℕ). first ++ z) p.parts ∙ sym (append_assoc first p.told (ending_by json m closing p.last p.asked.ending).text);
        }
    effect_told r (Denies code) v first rest more says leads does later =
        let q = stopped_do Refused (n + 1) ls more u rest (subst (λ (w : Next L). LinesDo form w (n + 1) ls more u rest) does.0 later) in
        let stop = closed q.1 in
        let text : (first ++ rest) ++ last ≡ refusal (n + 1) code = (λ i. (does.1 i ++ q.2 i) ++ stop.1 i) ∙ ap (λ (z : List ℕ). z ++ []) (append-nil (refusal (n + 1) code)) ∙ append-nil (refusal (n + 1) code) in
        refused_told (Ok (Some r)) code ((first ++ rest) ++ last) says (k.follows r s (Denies code) (n + 1) Later (refused_at (n + 1) code) leads refl) stop.0 text

    line_told : (said : Result (Option R) ℕ) (items : List R) (a : List ℕ) → Says said → DoBy form said (at t s) (n + 1) (λ v more w rest. LinesDo form v (n + 1) ls more w rest) items u a → Told t s n (l ∷ ls) e (a ++ last)
    line_told (Err code) items a says h =
        let stop = closed h.1 in
        refused_told (Err code) code (a ++ last) says refl stop.0 ((λ i. h.2 i ++ stop.1 i) ∙ append-nil (refusal_text (form.is_json (at t s)) (form.model_of (at t s)) (n + 1) (bare code)) ∙ refusal_is t s (n + 1) code)
    line_told (Ok None) items a says h =
        let p = on t s tie items a h in
        record { asked = p.asked; told = p.told; last = p.last; reads = (Ok None, says, p.reads); shown = p.shown; end = p.end; parts = p.parts }
    line_told (Ok (Some r)) items a says (v, first, more, rest, serves, later, all, parts) =
        let (f, leads, does) = k.does r t s (n + 1) v first tie serves in
        subst (λ (z : List ℕ). Told t s n (l ∷ ls) e (z ++ last)) (sym parts) (effect_told r f v first rest more says leads does later)

  from_lines : (ls : List (List ℕ)) (t : T) (s : S) → Ties t s → (n : ℕ) (items : List R) (u : Next L) (a : List ℕ) (c : ℕ) (e : End) (last : List ℕ) → LinesDo form (GoesOn (at t s)) n ls items u a → Closes (lines_machine form) u c e last
      → Told t s n ls e (a ++ last)
  from_lines [] t s tie n items u a c e last h closes =
      let q : answer e last ≡ answer Ended (closing t) = subst (λ (v : Next L). Closes (lines_machine form) v c e last) h.1 closes ∙ k.closes t s c in
      record {
        asked = record { items = []; ending = AllRead };
        told = [];
        last = t;
        reads = refl;
        shown = (refl, refl);
        end = ap (λ (z : Answer). z.end) q;
        parts = ap (λ (z : List ℕ). z ++ last) h.2 ∙ ap (λ (z : Answer). z.text) q;
      }
  from_lines (l ∷ ls) t s tie n items u a c e last (said, is, by) closes =
      line_told n l ls t s tie u c e last closes (λ v y go more rest h. from_lines ls v y go (n + 1) more u rest c e last h closes) said items a (line_says t s (n + 1) l said tie is) by

  -- what the machine prints is told
  pub told : (ls : List (List ℕ)) (t : T) (s : S) → Ties t s → (n : ℕ) (e : End) (text : List ℕ) → Completes (lines_machine form) (GoesOn (at t s)) n ls e text → Told t s n ls e text
  told ls t s tie n e text h =
      let (items, so) = ended form (GoesOn (at t s)) n ls e text h in
      subst (λ (z : List ℕ). Told t s n ls e z) (sym so.parts) (from_lines ls t s tie n items so.here so.told (n + length ls) e so.last so.done so.closes)

  -- ---- from what is told to the machine

  -- the lines run so
  record Goes (t : T) (s : S) (n : ℕ) (ls : List (List ℕ)) (e : End) (text : List ℕ) : Type 0 where
    pub items : List R
    pub here : Next L
    pub first : List ℕ
    pub does : LinesDo form (GoesOn (at t s)) n ls items here first
    pub last : List ℕ
    pub closes : (c : ℕ) → Closes (lines_machine form) here c e last
    pub parts : text ≡ first ++ last

  -- how the lines end, and what is told for that
  abbrev end_of : T → Asked X → End
  end_of y r = (ending_by json m closing y r.ending).end

  abbrev last_of : T → Asked X → List ℕ
  last_of y r = (ending_by json m closing y r.ending).text

  module _ (n : ℕ) (l : List ℕ) (ls : List (List ℕ)) (t : T) (s : S) (tie : Ties t s) (y : T)
      (on : (v : T) (z : S) → Ties v z → (r : Asked X) (told : List ℕ) → ReadsLines IsSaid Follows z (n + 1) ls r → Shown Shows v r.items y told → Goes v z (n + 1) ls (end_of y r) (told ++ last_of y r)) where
    -- the line is done so
    abbrev Does : Result (Option R) ℕ → List R → Next L → List ℕ → Type 0
    Does said items u a = DoBy form said (at t s) (n + 1) (λ v more w rest. LinesDo form v (n + 1) ls more w rest) items u a

    -- a line that is refused
    refused_goes : (said : Result (Option R) ℕ) (items : List R) (code : ℕ) (r : Asked X) (told : List ℕ) → SaidByCode form (code_at form (at t s) (n + 1) l) (at t s) l said → Does said items (Stops Refused) (refusal (n + 1) code)
        → r ≡ refused_at (n + 1) code → Shown Shows t r.items y told → Goes t s n (l ∷ ls) (end_of y r) (told ++ last_of y r)
    refused_goes said items code r told says does is shown =
        let none : told ≡ [] = (subst (λ (w : Asked X). Shown Shows t w.items y told) is shown).1 in
        record {
          items = items;
          here = Stops Refused;
          first = refusal (n + 1) code;
          does = (said, says, does);
          last = [];
          closes = λ c. (ap (end_of y) is, refl);
          parts = (λ i. none i ++ last_of y (is i)) ∙ sym (append-nil (refusal (n + 1) code));
        }

    effect_goes : (r : R) (f : Effect S X) (a : Asked X) (told : List ℕ) → SaidByCode form (code_at form (at t s) (n + 1) l) (at t s) l (Ok (Some r)) → Leads r s f → FollowsEffect f (n + 1) (λ z rest. ReadsLines IsSaid Follows z (n + 1) ls rest) a
        → Shown Shows t a.items y told → Goes t s n (l ∷ ls) (end_of y a) (told ++ last_of y a)
    effect_goes r (Sets z) a told says leads later shown =
        let p = on t z (k.sets r t s z tie leads) a told later shown in
        record {
          items = r ∷ p.items;
          here = p.here;
          first = p.first;
          does = (Ok (Some r), says, (GoesOn (at t z), [], p.items, p.first, k.serves r t s (Sets z) (n + 1) (GoesOn (at t z)) [] tie leads (refl, refl), p.does, refl, refl));
          last = p.last;
          closes = p.closes;
          parts = p.parts;
        }
    effect_goes r (Asks x z) a told says leads (rest, later, is) shown =
        let (v, first, more, shows, behind, parts) = subst (λ (w : Asked X). Shown Shows t w.items y told) is shown in
        let p = on v z (k.asks r t v s z x first tie leads shows) rest more later behind in
        record {
          items = r ∷ p.items;
          here = p.here;
          first = first ++ p.first;
          does = (Ok (Some r), says, (GoesOn (at v z), first, p.items, p.first, k.serves r t s (Asks x z) (n + 1) (GoesOn (at v z)) first tie leads (v, shows, refl), p.does, refl, refl));
          last = p.last;
          closes = λ c. subst (λ (e : End). Closes (lines_machine form) p.here c e p.last) (sym (ap (end_of y) is)) (p.closes c);
          parts = (λ i. parts i ++ last_of y (is i)) ∙ append_assoc first more (last_of y rest) ∙ ap (λ (w : List ℕ). first ++ w) p.parts ∙ sym (append_assoc first p.first p.last);
        }
    effect_goes r (Denies code) a told says leads is shown =
        refused_goes (Ok (Some r)) (r ∷ []) code a told says
        (Stops Refused, refusal (n + 1) code, [], [], k.serves r t s (Denies code) (n + 1) (Stops Refused) (refusal (n + 1) code) tie leads (refl, refl), stays_do Refused (n + 1) ls, refl, sym (append-nil (refusal (n + 1) code))) is shown

    line_goes : (said : Result (Option R) ℕ) (a : Asked X) (told : List ℕ) → SaidByCode form (code_at form (at t s) (n + 1) l) (at t s) l said → ReadsBy IsSaid Follows said s (n + 1) (λ z rest. ReadsLines IsSaid Follows z (n + 1) ls rest) a
        → Shown Shows t a.items y told → Goes t s n (l ∷ ls) (end_of y a) (told ++ last_of y a)
    line_goes (Err code) a told says is shown = refused_goes (Err code) [] code a told says (refl, refl, sym (refusal_is t s (n + 1) code)) is shown
    line_goes (Ok None) a told says later shown =
        let p = on t s tie a told later shown in
        record { items = p.items; here = p.here; first = p.first; does = (Ok None, says, p.does); last = p.last; closes = p.closes; parts = p.parts }
    line_goes (Ok (Some r)) a told says by shown =
        let (f, leads, follows) = k.leads r s (n + 1) (λ z rest. ReadsLines IsSaid Follows z (n + 1) ls rest) a by in
        effect_goes r f a told says leads follows shown

  to_lines : (ls : List (List ℕ)) (t : T) (s : S) → Ties t s → (n : ℕ) (a : Asked X) (told : List ℕ) (y : T) → ReadsLines IsSaid Follows s n ls a → Shown Shows t a.items y told → Goes t s n ls (end_of y a) (told ++ last_of y a)
  to_lines [] t s tie n a told y is shown =
      let none = subst (λ (w : Asked X). Shown Shows t w.items y told) is shown in
      let end : end_of y a ≡ Ended = ap (end_of y) is in
      record {
        items = [];
        here = GoesOn (at t s);
        first = [];
        does = (refl, refl, refl);
        last = closing t;
        closes = λ c. ap (λ (e : End). answer e (closing t)) end ∙ sym (k.closes t s c);
        parts = (λ i. none.1 i ++ last_of (none.0 i) (is i));
      }
  to_lines (l ∷ ls) t s tie n a told y (said, says, by) shown =
      line_goes n l ls t s tie y (λ v z go r more reads behind. to_lines ls v z go (n + 1) r more y reads behind) said a told (says_line t s (n + 1) l said tie says) by shown

  -- what is told is printed by the machine
  pub tells : (ls : List (List ℕ)) (t : T) (s : S) → Ties t s → (n : ℕ) (e : End) (text : List ℕ) → Told t s n ls e text → Completes (lines_machine form) (GoesOn (at t s)) n ls e text
  tells ls t s tie n e text h =
      let p = to_lines ls t s tie n h.asked h.told h.last h.reads h.shown in
      let closes = subst (λ (f : End). Closes (lines_machine form) p.here (n + length ls) f p.last) (sym h.end) (p.closes (n + length ls)) in
      ends form (GoesOn (at t s)) n ls p.items e text (record { here = p.here; told = p.first; done = p.does; last = p.last; closes = closes; parts = h.parts ∙ p.parts })
