-- What the machine of a form does for lines is what its lines do, both ways, and that is one.
use Rattle.std.proofs.Common.{◌≡◌, ℕ, ◌+◌, List, [], ◌∷◌, ◌++◌, length, Option, Some, None, Result, Ok, Err, refl, sym, ap, subst, ◌∙◌, append-nil}
use Rattle.cca_base.specs.Refusals.{bare}
use Rattle.line_machine.specs.Completes.{Completes}
use Rattle.line_machine.specs.Lines.{lines_in}
use Rattle.line_machine.specs.Next.{Next, GoesOn, Stops}
use Rattle.line_machine.specs.Runs.{Runs, Closes, IsSure, TransitionByCode, Transition}
use Rattle.line_machine.specs.declared.machine.End.{End}
use Rattle.line_machine.specs.declared.machine.End.TheVariants.{Refused}
use Rattle.line_machine.proofs.RunsAreOne.{stopped, stays}
use Rattle.line_machine.proofs.SureTextBegins.{goes_on}
use Rattle.trace_text.specs.Json.{refusal_text}
use Rattle.line_forms.specs.LinesDo.{code_at, SaidByCode, DoBy, LinesDo, LinesEndSo, LinesAreDone}
use Rattle.line_forms.specs.LinesMachine.{DoesBy, lines_machine, line_closes_are_one}
use Rattle.line_forms.specs.LineMeaning.{LineMeaning}

module _ {L I : Type 0} (form : LineMeaning L I) where
  -- the items of lines that do so
  abbrev Done : Next L → ℕ → List (List ℕ) → Next L → List ℕ → Type 0
  Done s n ls t text = (items : List I) × LinesDo form s n ls items t text

  -- ---- from the machine to the lines

  module _ (n : ℕ) (l : List ℕ) (ls : List (List ℕ)) (x : L) (t : Next L) where
    -- the later lines
    abbrev Later : Next L → List I → Next L → List ℕ → Type 0
    Later v more u rest = LinesDo form v (n + 1) ls more u rest

    refused_done : (said : Result (Option I) ℕ) (code : ℕ) (u : Next L) (a c : List ℕ) → SaidByCode form (code_at form x (n + 1) l) x l said → said ≡ Err code
        → (u ≡ Stops Refused) × (a ≡ refusal_text (form.is_json x) (form.model_of x) (n + 1) (bare code)) → Runs (lines_machine form) u (n + 1) ls t c → Done (GoesOn x) n (l ∷ ls) t (a ++ c)
    refused_done said code u a c asks is by r =
        let p = stopped (lines_machine form) Refused (n + 1) ls t c (subst (λ (v : Next L). Runs (lines_machine form) v (n + 1) ls t c) by.0 r) in
        ([], (said, asks, subst (λ (z : Result (Option I) ℕ). DoBy form z x (n + 1) Later [] t (a ++ c)) (sym is) (refl, p.0, rw (by.1, p.1) (append-nil (refusal_text (form.is_json x) (form.model_of x) (n + 1) (bare code))))))

    line_done : (o : Option ℕ) (u : Next L) (a c : List ℕ) → o ≡ code_at form x (n + 1) l → TransitionByCode (lines_machine form) o x (n + 1) l u a → Runs (lines_machine form) u (n + 1) ls t c → Done u (n + 1) ls t c → Done (GoesOn x) n (l ∷ ls) t (a ++ c)
    line_done (Some code) u a c f takes r on = refused_done (Err code) code u a c (subst (λ (o : Option ℕ). SaidByCode form o x l (Err code)) f refl) refl takes r
    line_done None u a c f (said, is, does) r on = by said is does
      where
        asked : (said : Result (Option I) ℕ) → form.said x l said → SaidByCode form (code_at form x (n + 1) l) x l said
        asked said is = subst (λ (o : Option ℕ). SaidByCode form o x l said) f is

        by : (said : Result (Option I) ℕ) → form.said x l said → DoesBy form said x (n + 1) u a → Done (GoesOn x) n (l ∷ ls) t (a ++ c)
        by (Err code) is h = refused_done (Err code) code u a c (asked (Err code) is) refl h r
        by (Ok None) is h =
            let (items, more) = on in
            (items, (Ok None, asked (Ok None) is, subst (λ (z : List ℕ). Later (GoesOn x) items t z) (sym (ap (λ (z : List ℕ). z ++ c) h.1)) (subst (λ (v : Next L). Later v items t c) h.0 more)))
        by (Ok (Some item)) is h =
            let (items, more) = on in
            (item ∷ items, (Ok (Some item), asked (Ok (Some item)) is, (u, a, items, c, h, more, refl, refl)))

  pub done : (ls : List (List ℕ)) (s t : Next L) (n : ℕ) (text : List ℕ) → Runs (lines_machine form) s n ls t text → Done s n ls t text
  done [] s t n text r = ([], (refl, r.0, r.1))
  done (l ∷ ls) (Stops e) t n text r = ([], (refl, r.0, r.1))
  done (l ∷ ls) (GoesOn x) t n text (u, a, c, takes, rest, parts) =
      subst (λ (z : List ℕ). Done (GoesOn x) n (l ∷ ls) t z) (sym parts) (line_done n l ls x t (code_at form x (n + 1) l) u a c refl takes rest (done ls u t (n + 1) c rest))

  -- ---- from the lines to the machine

  module _ (n : ℕ) (l : List ℕ) (ls : List (List ℕ)) (x : L) (t : Next L) where
    -- a line before a run
    run_by : (u : Next L) (a c text : List ℕ) → Transition (lines_machine form) x (n + 1) l u a → Runs (lines_machine form) u (n + 1) ls t c → text ≡ a ++ c → Runs (lines_machine form) (GoesOn x) n (l ∷ ls) t text
    run_by u a c text takes r is = (u, a, c, takes, r, is)

    refused_runs : (code : ℕ) (text : List ℕ) → t ≡ Stops Refused → text ≡ refusal_text (form.is_json x) (form.model_of x) (n + 1) (bare code)
        → Transition (lines_machine form) x (n + 1) l (Stops Refused) (refusal_text (form.is_json x) (form.model_of x) (n + 1) (bare code)) → Runs (lines_machine form) (GoesOn x) n (l ∷ ls) t text
    refused_runs code text end is takes =
        let words = refusal_text (form.is_json x) (form.model_of x) (n + 1) (bare code) in
        run_by (Stops Refused) words [] text takes (subst (λ (v : Next L). Runs (lines_machine form) (Stops Refused) (n + 1) ls v []) (sym end) (stays (lines_machine form) Refused (n + 1) ls)) (is ∙ sym (append-nil words))

    line_runs : (o : Option ℕ) (said : Result (Option I) ℕ) (items : List I) (text : List ℕ) → o ≡ code_at form x (n + 1) l → SaidByCode form o x l said
        → DoBy form said x (n + 1) (λ v more u rest. LinesDo form v (n + 1) ls more u rest) items t text
        → ((u : Next L) (more : List I) (rest : List ℕ) → LinesDo form u (n + 1) ls more t rest → Runs (lines_machine form) u (n + 1) ls t rest) → Runs (lines_machine form) (GoesOn x) n (l ∷ ls) t text
    line_runs (Some code) said items text f is by on =
        let h = subst (λ (z : Result (Option I) ℕ). DoBy form z x (n + 1) (λ v more u rest. LinesDo form v (n + 1) ls more u rest) items t text) is by in
        refused_runs code text h.1 h.2
        (subst (λ (o : Option ℕ). TransitionByCode (lines_machine form) o x (n + 1) l (Stops Refused) (refusal_text (form.is_json x) (form.model_of x) (n + 1) (bare code))) f (refl, refl))
    line_runs None said items text f is by on = serve said is by
      where
        taken : (said : Result (Option I) ℕ) → form.said x l said → (u : Next L) (a : List ℕ) → DoesBy form said x (n + 1) u a → Transition (lines_machine form) x (n + 1) l u a
        taken said is u a h = subst (λ (o : Option ℕ). TransitionByCode (lines_machine form) o x (n + 1) l u a) f (said, is, h)

        serve : (said : Result (Option I) ℕ) → form.said x l said → DoBy form said x (n + 1) (λ v more u rest. LinesDo form v (n + 1) ls more u rest) items t text → Runs (lines_machine form) (GoesOn x) n (l ∷ ls) t text
        serve (Err code) is h = refused_runs code text h.1 h.2 (taken (Err code) is (Stops Refused) (refusal_text (form.is_json x) (form.model_of x) (n + 1) (bare code)) (refl, refl))
        serve (Ok None) is h = run_by (GoesOn x) [] text text (taken (Ok None) is (GoesOn x) [] (refl, refl)) (on (GoesOn x) items text h) refl
        serve (Ok (Some item)) is (u, a, more, rest, serves, later, all, parts) = run_by u a rest text (taken (Ok (Some item)) is u a serves) (on u more rest later) parts

  pub does : (ls : List (List ℕ)) (s t : Next L) (n : ℕ) (items : List I) (text : List ℕ) → LinesDo form s n ls items t text → Runs (lines_machine form) s n ls t text
  does [] s t n items text h = (h.1, h.2)
  does (l ∷ ls) (Stops e) t n items text h = (h.1, h.2)
  does (l ∷ ls) (GoesOn x) t n items text (said, is, by) = line_runs n l ls x t (code_at form x (n + 1) l) said items text refl is by (λ u more rest h. does ls u t (n + 1) more rest h)

  -- ---- with the end of the input

  pub ended : (s : Next L) (n : ℕ) (ls : List (List ℕ)) (e : End) (text : List ℕ) → Completes (lines_machine form) s n ls e text → (items : List I) × LinesEndSo form s n ls items e text
  ended s n ls e text c =
      let (items, does_so) = done ls s c.here n c.lines c.runs in
      (items, record { here = c.here; told = c.lines; done = does_so; last = c.last; closes = c.closes; parts = c.parts })

  pub ends : (s : Next L) (n : ℕ) (ls : List (List ℕ)) (items : List I) (e : End) (text : List ℕ) → LinesEndSo form s n ls items e text → Completes (lines_machine form) s n ls e text
  ends s n ls items e text h = record { here = h.here; lines = h.told; runs = does ls s h.here n items h.told h.done; last = h.last; closes = h.closes; parts = h.parts }

  -- ---- what bytes alone decide

  pub sure : (x y : L) (bytes text : List ℕ) → IsSure (lines_machine form) x bytes (GoesOn y) text → Done (GoesOn x) 0 (lines_in bytes).whole (GoesOn y) text
  sure x y bytes text h =
      let last = goes_on (lines_machine form) h.here (length (lines_in bytes).whole + 1) (lines_in bytes).tail y h.last h.tail in
      let run = subst (λ (v : Next L). Runs (lines_machine form) (GoesOn x) 0 (lines_in bytes).whole v h.lines) last.0 h.runs in
      let all : text ≡ h.lines = h.parts ∙ rw (last.1) (append-nil h.lines) in
      subst (λ (z : List ℕ). Done (GoesOn x) 0 (lines_in bytes).whole (GoesOn y) z) (sym all) (done (lines_in bytes).whole (GoesOn x) (GoesOn y) 0 h.lines run)

  -- ---- it is one

  module _ (said_one : (x : L) (l : List ℕ) (a b : Result (Option I) ℕ) → form.said x l a → form.said x l b → a ≡ b)
      (serves_one : (i : I) (x : L) (l : List ℕ) (n : ℕ) (u v : Next L) (a c : List ℕ) → form.said x l (Ok (Some i)) → form.serves i x n u a → form.serves i x n v c → (u ≡ v) × (a ≡ c)) where
    -- two lists of items, two states and two texts are one
    abbrev Same : List I → List I → Next L → Next L → List ℕ → List ℕ → Type 0
    Same items others t u a c = (items ≡ others) × (t ≡ u) × (a ≡ c)

    code_one : (o : Option ℕ) (x : L) (l : List ℕ) (a b : Result (Option I) ℕ) → SaidByCode form o x l a → SaidByCode form o x l b → a ≡ b
    code_one (Some code) x l a b h k = h ∙ sym k
    code_one None x l a b h k = said_one x l a b h k

    -- an item that a line says is read of it
    item_read : (o : Option ℕ) (x : L) (l : List ℕ) (i : I) → SaidByCode form o x l (Ok (Some i)) → form.said x l (Ok (Some i))
    item_read (Some code) x l i h = absurd cc
    item_read None x l i h = h

    by_one : (said : Result (Option I) ℕ) (x : L) (l : List ℕ) (n : ℕ) (Later : Next L → List I → Next L → List ℕ → Type 0) → ((v : Next L) (items others : List I) (t u : Next L) (a c : List ℕ) → Later v items t a → Later v others u c → Same items others t u a c)
        → SaidByCode form (code_at form x n l) x l said → (items others : List I) (t u : Next L) (a c : List ℕ) → DoBy form said x n Later items t a → DoBy form said x n Later others u c → Same items others t u a c
    by_one (Err code) x l n Later one is items others t u a c h k = (h.0 ∙ sym k.0, h.1 ∙ sym k.1, h.2 ∙ sym k.2)
    by_one (Ok None) x l n Later one is items others t u a c h k = one (GoesOn x) items others t u a c h k
    by_one (Ok (Some i)) x l n Later one is items others t u a c (v, first, more, rest, serves, later, all, parts) (w, first', more', rest', serves', later', all', parts') =
        let p = serves_one i x l n v w first first' (item_read (code_at form x n l) x l i is) serves serves' in
        let q = one w more more' t u rest rest' (subst (λ (z : Next L). Later z more t rest) p.0 later) later' in
        (all ∙ ap (λ (z : List I). i ∷ z) q.0 ∙ sym all', q.1, parts ∙ rw (p.1, q.2) refl ∙ sym parts')

    pub do_one : (ls : List (List ℕ)) (s t u : Next L) (n : ℕ) (items others : List I) (a c : List ℕ) → LinesDo form s n ls items t a → LinesDo form s n ls others u c → Same items others t u a c
    do_one [] s t u n items others a c h k = (h.0 ∙ sym k.0, h.1 ∙ sym k.1, h.2 ∙ sym k.2)
    do_one (l ∷ ls) (Stops e) t u n items others a c h k = (h.0 ∙ sym k.0, h.1 ∙ sym k.1, h.2 ∙ sym k.2)
    do_one (l ∷ ls) (GoesOn x) t u n items others a c (said, is, h) (other, was, k) =
        let same = code_one (code_at form x (n + 1) l) x l said other is was in
        by_one other x l (n + 1) (λ v more w rest. LinesDo form v (n + 1) ls more w rest) (λ v xs ys w z b d. do_one ls v w z (n + 1) xs ys b d) was items others t u a c
        (subst (λ (z : Result (Option I) ℕ). DoBy form z x (n + 1) (λ v more w rest. LinesDo form v (n + 1) ls more w rest) items t a) same h) k

    closes_one : (s : Next L) (n : ℕ) (e f : End) (a c : List ℕ) → Closes (lines_machine form) s n e a → Closes (lines_machine form) s n f c → (e ≡ f) × (a ≡ c)
    closes_one (Stops g) n e f a c h k = (h.0 ∙ sym k.0, h.1 ∙ sym k.1)
    closes_one (GoesOn x) n e f a c h k = line_closes_are_one form x n e f a c h k

    end_one : (s : Next L) (n : ℕ) (ls : List (List ℕ)) (items others : List I) (e f : End) (a c : List ℕ) → LinesEndSo form s n ls items e a → LinesEndSo form s n ls others f c → (items ≡ others) × (e ≡ f) × (a ≡ c)
    end_one s n ls items others e f a c h k =
        let p = do_one ls s h.here k.here n items others h.told k.told h.done k.done in
        let q = closes_one k.here (n + length ls) e f h.last k.last (subst (λ (v : Next L). Closes (lines_machine form) v (n + length ls) e h.last) p.1 h.closes) k.closes in
        (p.0, q.0, h.parts ∙ rw (p.2, q.1) refl ∙ sym k.parts)

    pub lines_are_done : LinesAreDone form
    lines_are_done = record {
      done = λ s t n ls text r. done ls s t n text r;
      does = λ s t n ls items text h. does ls s t n items text h;
      ended = ended;
      ends = ends;
      one = λ s t u n ls items others a c h k. do_one ls s t u n items others a c h k;
      one_end = end_one;
      sure = sure;
    }
