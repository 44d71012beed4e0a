-- A machine that prints by lines has printed, of the bytes so far, the whole text of some that came first.
use Rattle.std.proofs.Common.{◌≡◌, ◌⊎◌, ℕ, ◌+◌, inl, inr, Bool, true, false, cond, eqb, List, [], ◌∷◌, ◌++◌, length, Option, Some, None, refl, sym, ap, subst, ◌∙◌, append_assoc, append-nil}
use Rattle.std.proofs.lemmas.Bool.{eqb-true}
use Rattle.std.specs.Io.KnownBytes.{IsAtEnd}
use Rattle.line_machine.specs.Driven.{BySure, ByLines, ByText}
use Rattle.line_machine.specs.Fronts.{PrintsByLines, IsTextSoFar, PrintsSoFar}
use Rattle.line_machine.specs.Lines.{Lines, with_line, lines_behind, lines_in, all_lines, HasNoLf}
use Rattle.line_machine.specs.Next.{Next, GoesOn, Stops}
use Rattle.line_machine.specs.Runs.{length_code, TailTransition, TransitionByCode, Runs, Closes, IsSure, IsText}
use Rattle.line_machine.specs.declared.machine.End.{End}
use Rattle.line_machine.specs.declared.machine.End.TheVariants.{Ended, Refused}
use Rattle.line_machine.specs.declared.machine.Machine.{Ghosts}
use Rattle.line_machine.proofs.EndsSo.{not_end}
use Rattle.line_machine.proofs.JoinedLines.{line_before, clean_on}
use Rattle.line_machine.proofs.SureTextBegins.{decided, goes_on}

-- ---- the whole lines of some bytes

-- the bytes up to the last LF
record UpToLastLf (front bytes : List ℕ) : Type 0 where
  upto : List ℕ
  joined : upto ++ (lines_behind front bytes).tail ≡ front ++ bytes
  again : lines_in upto ≡ record { whole = (lines_behind front bytes).whole; tail = [] }

cut_by : (t : Bool) (front : List ℕ) (b : ℕ) (bytes : List ℕ) → eqb b 10 ≡ t → HasNoLf front → UpToLastLf [] bytes → (eqb b 10 ≡ false → UpToLastLf (front ++ b ∷ []) bytes) → UpToLastLf front (b ∷ bytes)
cut_by true front b bytes e clean here on =
    let ends : lines_behind front (b ∷ bytes) ≡ with_line front (lines_in bytes) = ap (λ (t : Bool). cond t (with_line front (lines_in bytes)) (lines_behind (front ++ b ∷ []) bytes)) e in
    let lf : b ≡ 10 = eqb-true b 10 e in
    record {
      upto = (front ++ 10 ∷ []) ++ here.upto;
      joined = ap (λ (x : Lines). ((front ++ 10 ∷ []) ++ here.upto) ++ x.tail) ends ∙ append_assoc (front ++ 10 ∷ []) here.upto (lines_in bytes).tail ∙ ap (λ (x : List ℕ). (front ++ 10 ∷ []) ++ x) here.joined
          ∙ append_assoc front (10 ∷ []) bytes ∙ ap (λ (x : ℕ). front ++ x ∷ bytes) (sym lf);
      again = line_before front here.upto clean ∙ ap (with_line front) here.again ∙ ap (λ (x : Lines). record { whole = x.whole; tail = [] }) (sym ends);
    }
cut_by false front b bytes e clean here on =
    let ends : lines_behind front (b ∷ bytes) ≡ lines_behind (front ++ b ∷ []) bytes = ap (λ (t : Bool). cond t (with_line front (lines_in bytes)) (lines_behind (front ++ b ∷ []) bytes)) e in
    let r = on e in
    record {
      upto = r.upto;
      joined = ap (λ (x : Lines). r.upto ++ x.tail) ends ∙ r.joined ∙ append_assoc front (b ∷ []) bytes;
      again = r.again ∙ ap (λ (x : Lines). record { whole = x.whole; tail = [] }) (sym ends);
    }

cut : (bytes front : List ℕ) → HasNoLf front → UpToLastLf front bytes
cut [] front clean = record { upto = []; joined = sym (append-nil front); again = refl }
cut (b ∷ bytes) front clean = cut_by (eqb b 10) front b bytes refl clean (cut bytes [] tt) (λ e. cut bytes (front ++ b ∷ []) (clean_on front b clean e))

-- ---- what may be printed

module _ {S : Type 0} (m : Ghosts S) (first : S) where
  -- nothing was printed yet, or it is the whole text of some bytes that came first
  abbrev SoFar : List ℕ → Type 0 → List ℕ → Type 0
  SoFar taken IsOver text = (text ≡ []) ⊎ IsTextSoFar m first taken IsOver text

  -- all lines of some bytes lead there, and the machine ends there so
  text_at : (came : List ℕ) (e : End) (here : Next S) (ls : List (List ℕ)) (lines text : List ℕ) → all_lines (lines_in came) ≡ ls → Runs m (GoesOn first) 0 ls here lines → ((n : ℕ) → Closes m here n e []) → text ≡ lines → IsText m first came e text
  text_at came e here ls lines text all runs closes is = record {
    here = here;
    lines = lines;
    runs = subst (λ (x : List (List ℕ)). Runs m (GoesOn first) 0 x here lines) (sym all) runs;
    last = [];
    closes = closes (length (all_lines (lines_in came)));
    parts = is ∙ sym (append-nil lines);
  }

  module _ (by_lines : PrintsByLines m first) where
    -- where the machine goes on, no line of them is refused
    pub going_so_far : (t : S) (bytes text : List ℕ) → IsSure m first bytes (GoesOn t) text → (text ≡ []) ⊎ ((came more : List ℕ) × (came ++ more ≡ bytes) × IsText m first came Ended text × IsSure m first came (GoesOn t) text)
    going_so_far t bytes text h =
        let last = goes_on m h.here (length (lines_in bytes).whole + 1) (lines_in bytes).tail t h.last h.tail in
        let run = subst (λ (v : Next S). Runs m (GoesOn first) 0 (lines_in bytes).whole v h.lines) last.0 h.runs in
        let all : text ≡ h.lines = h.parts ∙ ap (λ (z : List ℕ). h.lines ++ z) last.1 ∙ append-nil h.lines in
        let up = cut bytes [] tt in
        let whole : all_lines (lines_in up.upto) ≡ (lines_in bytes).whole = ap all_lines up.again ∙ append-nil (lines_in bytes).whole in
        elim (by_lines t (lines_in bytes).whole h.lines run) [
          | inl none ↦ inl (all ∙ none)
          | inr closes ↦ inr (
            up.upto,
            (lines_in bytes).tail,
            up.joined,
            text_at up.upto Ended (GoesOn t) (lines_in bytes).whole h.lines text whole run closes all,
            (let sure : IsSure m first up.upto (GoesOn t) h.lines = record {
              here = GoesOn t;
              lines = h.lines;
              runs = subst (λ (x : List (List ℕ)). Runs m (GoesOn first) 0 x (GoesOn t) h.lines) (sym (ap (λ (x : Lines). x.whole) up.again)) run;
              last = [];
              tail = subst (λ (x : List ℕ). TailTransition m (GoesOn t) (length (lines_in up.upto).whole + 1) x (GoesOn t) []) (sym (ap (λ (x : Lines). x.tail) up.again)) (refl, refl);
              parts = sym (append-nil h.lines);
            } in subst (λ (x : List ℕ). IsSure m first up.upto (GoesOn t) x) (sym all) sure),
          )
        ]

    sure_so_far : (t : Next S) (bytes text : List ℕ) (IsOver : Type 0) → IsSure m first bytes t text → SoFar bytes IsOver text
    sure_so_far (GoesOn t) bytes text IsOver h = elim (going_so_far t bytes text h) [
      | inl none ↦ inl none
      | inr (came, more, begins, is, sure) ↦ inr (record { came = came; more = more; begins = begins; end = Ended; is = is; own = inl (GoesOn t, sure) })
    ]
    sure_so_far (Stops e) bytes text IsOver h = inr (record {
      came = bytes;
      more = [];
      begins = append-nil bytes;
      end = e;
      is = subst (λ (b : List ℕ). IsText m first b e text) (append-nil bytes) (decided m first bytes [] text e h);
      own = inl (Stops e, h);
    })

    -- of more bytes the same came first
    of_more : (some more taken : List ℕ) (IsOver : Type 0) (text : List ℕ) → some ++ more ≡ taken → SoFar some ⊥ text → SoFar taken IsOver text
    of_more some more taken IsOver text is (inl none) = inl none
    of_more some more taken IsOver text is (inr h) = inr (record {
      came = h.came;
      more = h.more ++ more;
      begins = sym (append_assoc h.came h.more more) ∙ ap (λ (z : List ℕ). z ++ more) h.begins ∙ is;
      end = h.end;
      is = h.is;
      own = elim h.own [ inl sure ↦ inl sure | inr never ↦ absurd never.1 ];
    })

    lines_so_far : (t : Next S) (taken text : List ℕ) (IsOver : Type 0) → IsOver → Runs m (GoesOn first) 0 (all_lines (lines_in taken)) t text → SoFar taken IsOver text
    lines_so_far (Stops e) taken text IsOver over r = inr (record {
      came = taken;
      more = [];
      begins = append-nil taken;
      end = e;
      is = text_at taken e (Stops e) (all_lines (lines_in taken)) text text refl r (λ n. (refl, refl)) refl;
      own = inr (refl, over);
    })
    lines_so_far (GoesOn t) taken text IsOver over r = elim (by_lines t (all_lines (lines_in taken)) text r) [
      | inl none ↦ inl none
      | inr closes ↦ inr (record { came = taken; more = []; begins = append-nil taken; end = Ended; is = text_at taken Ended (GoesOn t) (all_lines (lines_in taken)) text text refl r closes refl; own = inr (refl, over) })
    ]

    pub prints_so_far : PrintsSoFar m first
    prints_so_far taken left text (BySure some more t is sure) = of_more some more taken (IsAtEnd left) text is (sure_so_far t some text ⊥ sure)
    prints_so_far taken left text (ByLines t over r) = lines_so_far t taken text (IsAtEnd left) over r
    prints_so_far taken left text (ByText e over is) = inr (record { came = taken; more = []; begins = append-nil taken; end = e; is = is; own = inr (refl, over) })

-- ---- which machines print by lines

-- some states have printed nothing, and are left for good; in all others the input may end, and nothing is printed for that
module _ {S : Type 0} (m : Ghosts S) (IsQuietIn : S → Type 0) (closing : (t : S) → IsQuietIn t ⊎ ((n : ℕ) → m.closes t n Ended []))
    (stays : (s : S) (n : ℕ) (l : List ℕ) (t : S) (text : List ℕ) → m.steps s n l (GoesOn t) text → IsQuietIn t → IsQuietIn s × (text ≡ [])) where
  takes_quiet : (o : Option ℕ) (s : S) (n : ℕ) (l : List ℕ) (t : S) (text : List ℕ) → TransitionByCode m o s n l (GoesOn t) text → IsQuietIn t → IsQuietIn s × (text ≡ [])
  takes_quiet (Some code) s n l t text h quiet = absurd (not_end Refused t (sym h.0))
  takes_quiet None s n l t text h quiet = stays s n l t text h quiet

  same_going : (s t : S) → GoesOn t ≡ GoesOn s → t ≡ s
  same_going s t e = cc

  stopped_never : (ls : List (List ℕ)) (e : End) (n : ℕ) (t : S) (text : List ℕ) → Runs m (Stops e) n ls (GoesOn t) text → ⊥
  stopped_never [] e n t text r = not_end e t (sym r.0)
  stopped_never (l ∷ ls) e n t text r = not_end e t (sym r.0)

  runs_quiet : (ls : List (List ℕ)) (s t : S) (n : ℕ) (text : List ℕ) → Runs m (GoesOn s) n ls (GoesOn t) text → IsQuietIn t → IsQuietIn s × (text ≡ [])
  runs_quiet [] s t n text r quiet = (subst IsQuietIn (same_going s t r.0) quiet, r.1)
  runs_quiet (l ∷ ls) s t n text (Stops e, a, c, takes, rest, parts) quiet = absurd (stopped_never ls e (n + 1) t c rest)
  runs_quiet (l ∷ ls) s t n text (GoesOn u, a, c, takes, rest, parts) quiet =
      let later = runs_quiet ls u t (n + 1) c rest quiet in
      let first = takes_quiet (length_code (m.limit_of s) (n + 1) (length l)) s (n + 1) l u a takes later.0 in
      (first.0, parts ∙ rw (first.1, later.1) refl)

  pub prints_by_lines : (first : S) → PrintsByLines m first
  prints_by_lines first t ls text r = elim (closing t) [ inl quiet ↦ inl (runs_quiet ls first t 0 text r quiet).1 | inr closes ↦ inr closes ]
