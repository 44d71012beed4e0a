-- What bytes alone decide, and what more bytes make of it.
use Rattle.std.proofs.Common.{◌≡◌, ℕ, ◌+◌, ◌≤◌, ◌<◌, Bool, true, false, cond, ltb, List, [], ◌∷◌, ◌++◌, length, Option, Some, None, refl, sym, ap, subst, ◌∙◌, append_assoc, append-nil, arith, length-append}
use Rattle.std.proofs.lemmas.Bool.{ltb-true, lt-ltb}
use Rattle.line_machine.specs.Next.{Next, GoesOn, Stops}
use Rattle.line_machine.specs.Lines.{Lines, lines_behind, lines_in, all_lines, last_line}
use Rattle.line_machine.specs.Runs.{length_code, TransitionByCode, Transition, Runs, TailByCode, TailTransition, IsSure, Closes, IsText, IsPrefix, IsQuiet}
use Rattle.line_machine.specs.declared.machine.End.{End}
use Rattle.line_machine.specs.declared.machine.End.TheVariants.{Refused}
use Rattle.line_machine.specs.declared.machine.Machine.{Ghosts}
use Rattle.line_machine.specs.declared.machine.TheConstants.{MAX_LINES}
use Rattle.line_machine.proofs.JoinedLines.{with_lines, lines-append, grown}
use Rattle.line_machine.proofs.RunsAreOne.{IsFixed, stopped, stays, runs_on, runs_apart, runs_are_one}
use Rattle.line_machine.proofs.EndsSo.{not_end}

code_kept : (b t u : Bool) (x y code : ℕ) → (t ≡ true → u ≡ true) → cond b (Some x) (cond t (Some y) None) ≡ Some code → cond b (Some x) (cond u (Some y) None) ≡ Some code
code_kept true t u x y code grows e = e
code_kept false true u x y code grows e = rw (grows refl) e
code_kept false false u x y code grows e = absurd cc

-- a line that has the code still has it when it is longer
code_grows : (limit n j k code : ℕ) → j ≤ k → length_code limit n j ≡ Some code → length_code limit n k ≡ Some code
code_grows limit n j k code le e = code_kept (ltb MAX_LINES n) (ltb limit j) (ltb limit k) 19 18 code (λ h. lt-ltb limit k (let lt : limit < j = ltb-true limit j h in omega arith)) e

module _ {S : Type 0} (m : Ghosts S) where
  pub takes_long : (s : S) (n code : ℕ) (l : List ℕ) → length_code (m.limit_of s) n (length l) ≡ Some code → Transition m s n l (Stops Refused) (m.refusal s n code)
  takes_long s n code l e = subst (λ o. TransitionByCode m o s n l (Stops Refused) (m.refusal s n code)) (sym e) (refl, refl)

  pub tail_long : (s : S) (n code : ℕ) (l : List ℕ) → 0 < length l → length_code (m.limit_of s) n (length l) ≡ Some code → TailTransition m (GoesOn s) n l (Stops Refused) (m.refusal s n code)
  tail_long s n code [] h e = absurd (omega (arith, h))
  tail_long s n code (b ∷ l) h e = subst (λ o. TailByCode m o s n (Stops Refused) (m.refusal s n code)) (sym e) (refl, refl)

  tail_stays : (f : End) (n : ℕ) (l : List ℕ) → TailTransition m (Stops f) n l (Stops f) []
  tail_stays f n [] = (refl, refl)
  tail_stays f n (b ∷ l) = (refl, refl)

  tail_stopped : (f : End) (n : ℕ) (l : List ℕ) (t : Next S) (a : List ℕ) → TailTransition m (Stops f) n l t a → (t ≡ Stops f) × (a ≡ [])
  tail_stopped f n [] t a h = h
  tail_stopped f n (b ∷ l) t a h = h

  -- a tail that decides the end has a code by its length or its number
  pub record IsLong (s : S) (n : ℕ) (l : List ℕ) (e : End) (a : List ℕ) : Type 0 where
    pub code : ℕ
    pub some : 0 < length l
    pub has : length_code (m.limit_of s) n (length l) ≡ Some code
    pub end : e ≡ Refused
    pub text : a ≡ m.refusal s n code

  long_by : (o : Option ℕ) (s : S) (n : ℕ) (l : List ℕ) (e : End) (a : List ℕ) → 0 < length l → length_code (m.limit_of s) n (length l) ≡ o → TailByCode m o s n (Stops e) a → IsLong s n l e a
  long_by (Some code) s n l e a some has h = record { code = code; some = some; has = has; end = cc; text = h.1 }
  long_by None s n l e a some has h = absurd (not_end e s h.0)

  long : (s : S) (n : ℕ) (l : List ℕ) (e : End) (a : List ℕ) → TailTransition m (GoesOn s) n l (Stops e) a → IsLong s n l e a
  long s n [] e a h = absurd (not_end e s h.0)
  long s n (b ∷ l) e a h = long_by (length_code (m.limit_of s) n (length (b ∷ l))) s n (b ∷ l) e a (omega arith) refl h

  -- whatever stands behind a tail that decides the end, the program ends so
  refused_first : (s : S) (n : ℕ) (l first : List ℕ) (others : List (List ℕ)) (e : End) (a : List ℕ) → IsLong s (n + 1) l e a → length l ≤ length first → Runs m (GoesOn s) n (first ∷ others) (Stops e) a
  refused_first s n l first others e a h longer =
      rw (h.end, h.text) (Stops Refused, m.refusal s (n + 1) h.code, [], takes_long s (n + 1) h.code first (code_grows (m.limit_of s) (n + 1) (length l) (length first) h.code longer h.has), stays m Refused (n + 1) others, sym (append-nil (m.refusal s (n + 1) h.code)))

  decides : (here : Next S) (n : ℕ) (tail more : List ℕ) (e : End) (a : List ℕ) → TailTransition m here (n + 1) tail (Stops e) a → Runs m here n (all_lines (lines_behind tail more)) (Stops e) a
  decides (Stops f) n tail more e a h =
      let p = tail_stopped f (n + 1) tail (Stops e) a h in
      rw (p.0, p.1) (stays m f n (all_lines (lines_behind tail more)))
  decides (GoesOn s) n tail more e a h =
      let k = long s (n + 1) tail e a h in
      let g = grown tail more k.some in
      rw (g.all) (refused_first s n tail g.first g.others e a k g.longer)

  -- a run over lines and then the tail behind them
  pub record Ending (here : Next S) (n : ℕ) (x : Lines) (t : Next S) (text : List ℕ) : Type 0 where
    pub there : Next S
    pub lines : List ℕ
    pub runs : Runs m here n x.whole there lines
    pub last : List ℕ
    pub tail : TailTransition m there (n + length x.whole + 1) x.tail t last
    pub parts : text ≡ lines ++ last

  refused_soon : (s : S) (n : ℕ) (l first : List ℕ) (others whole : List (List ℕ)) (tail : List ℕ) (e : End) (a : List ℕ) → IsLong s (n + 1) l e a → length l ≤ length first → whole ++ last_line tail ≡ first ∷ others
      → Ending (GoesOn s) n (record { whole = whole; tail = tail }) (Stops e) a
  refused_soon s n l first others [] [] e a h longer all = absurd cc
  refused_soon s n l first others [] (c ∷ tail) e a h longer all =
      let is : first ≡ c ∷ tail = cc in
      let longer_tail : length l ≤ length (c ∷ tail) = subst (λ (k : List ℕ). length l ≤ length k) is longer in
      let at : n + 0 + 1 ≡ n + 1 = omega arith in
      record {
        there = GoesOn s;
        lines = [];
        runs = (refl, refl);
        last = a;
        tail = rw (at, h.end, h.text) (tail_long s (n + 1) h.code (c ∷ tail) (omega arith) (code_grows (m.limit_of s) (n + 1) (length l) (length (c ∷ tail)) h.code longer_tail h.has));
        parts = refl;
      }
  refused_soon s n l first others (w ∷ ws) tail e a h longer all =
      let is : first ≡ w = cc in
      record {
        there = Stops e;
        lines = a;
        runs = refused_first s n l w ws e a h (subst (λ (k : List ℕ). length l ≤ length k) is longer);
        last = [];
        tail = tail_stays e (n + length (w ∷ ws) + 1) tail;
        parts = sym (append-nil a);
      }

  decides_sure : (here : Next S) (n : ℕ) (tail more : List ℕ) (e : End) (a : List ℕ) → TailTransition m here (n + 1) tail (Stops e) a → Ending here n (lines_behind tail more) (Stops e) a
  decides_sure (Stops f) n tail more e a h =
      let p = tail_stopped f (n + 1) tail (Stops e) a h in
      let x = lines_behind tail more in
      rw (p.0, p.1) record { there = Stops f; lines = []; runs = stays m f n x.whole; last = []; tail = tail_stays f (n + length x.whole + 1) x.tail; parts = refl }
  decides_sure (GoesOn s) n tail more e a h =
      let k = long s (n + 1) tail e a h in
      let g = grown tail more k.some in
      let x = lines_behind tail more in
      refused_soon s n tail g.first g.others x.whole x.tail e a k g.longer g.all

  by_code : (o : Option ℕ) (s : S) (n : ℕ) (u : S) (a : List ℕ) → TailByCode m o s n (GoesOn u) a → (s ≡ u) × (a ≡ [])
  by_code (Some code) s n u a h = absurd (not_end Refused u (sym h.0))
  by_code None s n u a h = (cc, h.1)

  -- a tail that leaves the program going is not looked at
  pub goes_on : (here : Next S) (n : ℕ) (tail : List ℕ) (s : S) (a : List ℕ) → TailTransition m here n tail (GoesOn s) a → (here ≡ GoesOn s) × (a ≡ [])
  goes_on here n [] s a h = (sym h.0, h.1)
  goes_on (Stops e) n (b ∷ l) s a h = absurd (not_end e s (sym h.0))
  goes_on (GoesOn u) n (b ∷ l) s a h = let p = by_code (length_code (m.limit_of u) n (length (b ∷ l))) u n s a h in (ap (λ v. GoesOn v) p.0, p.1)

  module _ (first : S) where
    -- all lines of joined bytes
    all_joined : (a more : List ℕ) → all_lines (lines_in (a ++ more)) ≡ (lines_in a).whole ++ all_lines (lines_behind (lines_in a).tail more)
    all_joined a more = ap all_lines (lines-append [] a more) ∙ append_assoc (lines_in a).whole (lines_behind (lines_in a).tail more).whole (last_line (lines_behind (lines_in a).tail more).tail)

    -- what the lines of bytes decide
    pub sure_from : (bytes : List ℕ) (x : Lines) (t : Next S) (text : List ℕ) → lines_in bytes ≡ x → Ending (GoesOn first) 0 x t text → IsSure m first bytes t text
    sure_from bytes x t text e d =
        let count : 0 + length x.whole + 1 ≡ length x.whole + 1 = omega arith in
        record {
          here = d.there;
          lines = d.lines;
          runs = subst (λ (y : Lines). Runs m (GoesOn first) 0 y.whole d.there d.lines) (sym e) d.runs;
          last = d.last;
          tail = subst (λ (y : Lines). TailTransition m d.there (length y.whole + 1) y.tail t d.last) (sym e) (subst (λ (k : ℕ). TailTransition m d.there k x.tail t d.last) count d.tail);
          parts = d.parts;
        }

    -- bytes that decide the end decide the whole text
    pub decided : (a more x : List ℕ) (e : End) → IsSure m first a (Stops e) x → IsText m first (a ++ more) e x
    decided a more x e r =
        let n = length (lines_in a).whole in
        record {
          here = Stops e;
          lines = r.lines ++ r.last;
          runs = rw (all_joined a more) (runs_on m (GoesOn first) r.here (Stops e) 0 n (lines_in a).whole (all_lines (lines_behind (lines_in a).tail more)) r.lines r.last (omega arith) r.runs (decides r.here n (lines_in a).tail more e r.last r.tail));
          last = [];
          closes = (refl, refl);
          parts = r.parts ∙ sym (append-nil (r.lines ++ r.last));
        }

    -- and more bytes change nothing
    pub stays_decided : (a more x : List ℕ) (e : End) → IsSure m first a (Stops e) x → IsSure m first (a ++ more) (Stops e) x
    stays_decided a more x e r =
        let n = length (lines_in a).whole in
        let rest = lines_behind (lines_in a).tail more in
        let d = decides_sure r.here n (lines_in a).tail more e r.last r.tail in
        let count : n + length rest.whole + 1 ≡ 0 + length ((lines_in a).whole ++ rest.whole) + 1 = omega (arith, length-append (lines_in a).whole rest.whole) in
        sure_from (a ++ more) (with_lines (lines_in a).whole rest) (Stops e) x (lines-append [] a more) record {
          there = d.there;
          lines = r.lines ++ d.lines;
          runs = runs_on m (GoesOn first) r.here d.there 0 n (lines_in a).whole rest.whole r.lines d.lines (omega arith) r.runs d.runs;
          last = d.last;
          tail = subst (λ (k : ℕ). TailTransition m d.there k rest.tail (Stops e) d.last) count d.tail;
          parts = r.parts ∙ ap (λ (z : List ℕ). r.lines ++ z) d.parts ∙ sym (append_assoc r.lines d.lines d.last);
        }

    module _ (fixed : IsFixed m) where
      tail_is_one_by : (o : Option ℕ) (s : S) (n : ℕ) (t u : Next S) (a c : List ℕ) → TailByCode m o s n t a → TailByCode m o s n u c → (t ≡ u) × (a ≡ c)
      tail_is_one_by (Some code) s n t u a c h k = (h.0 ∙ sym k.0, h.1 ∙ sym k.1)
      tail_is_one_by None s n t u a c h k = (h.0 ∙ sym k.0, h.1 ∙ sym k.1)

      tail_is_one : (here : Next S) (n : ℕ) (l : List ℕ) (t u : Next S) (a c : List ℕ) → TailTransition m here n l t a → TailTransition m here n l u c → (t ≡ u) × (a ≡ c)
      tail_is_one here n [] t u a c h k = (h.0 ∙ sym k.0, h.1 ∙ sym k.1)
      tail_is_one (Stops e) n (b ∷ l) t u a c h k = (h.0 ∙ sym k.0, h.1 ∙ sym k.1)
      tail_is_one (GoesOn s) n (b ∷ l) t u a c h k = tail_is_one_by (length_code (m.limit_of s) n (length (b ∷ l))) s n t u a c h k

      pub sure_is_one : (a x y : List ℕ) (t u : Next S) → IsSure m first a t x → IsSure m first a u y → (t ≡ u) × (x ≡ y)
      sure_is_one a x y t u r q =
          let n = length (lines_in a).whole in
          let p = runs_are_one m fixed (GoesOn first) r.here q.here 0 (lines_in a).whole r.lines q.lines r.runs q.runs in
          let z = tail_is_one r.here (n + 1) (lines_in a).tail t u r.last q.last r.tail (rw (p.0) q.tail) in
          (z.0, r.parts ∙ rw (p.1, z.1) refl ∙ sym q.parts)

      closes_are_one : (here : Next S) (n : ℕ) (e f : End) (a c : List ℕ) → Closes m here n e a → Closes m here n f c → (e ≡ f) × (a ≡ c)
      closes_are_one (Stops g) n e f a c h k = (h.0 ∙ sym k.0, h.1 ∙ sym k.1)
      closes_are_one (GoesOn s) n e f a c h k = fixed.closes s n e f a c h k

      pub text_is_one : (a x y : List ℕ) (e f : End) → IsText m first a e x → IsText m first a f y → (e ≡ f) × (x ≡ y)
      text_is_one a x y e f r q =
          let n = length (all_lines (lines_in a)) in
          let p = runs_are_one m fixed (GoesOn first) r.here q.here 0 (all_lines (lines_in a)) r.lines q.lines r.runs q.runs in
          let z = closes_are_one r.here n e f r.last q.last r.closes (rw (p.0) q.closes) in
          (z.0, r.parts ∙ rw (p.1, z.1) refl ∙ sym q.parts)

      -- what a program that goes on has printed begins all that follows
      begins : (a x : List ℕ) (s : S) (ls : List (List ℕ)) (t : Next S) (y : List ℕ) → IsSure m first a (GoesOn s) x → Runs m (GoesOn first) 0 ((lines_in a).whole ++ ls) t y → IsPrefix x y
      begins a x s ls t y r q =
          let n = length (lines_in a).whole in
          let p = runs_apart m (GoesOn first) t 0 n (lines_in a).whole ls y (omega arith) q in
          let one = runs_are_one m fixed (GoesOn first) r.here p.here 0 (lines_in a).whole r.lines p.before r.runs p.first in
          let nothing = goes_on r.here (n + 1) (lines_in a).tail s r.last r.tail in
          (p.after, rw (r.parts, nothing.1, append-nil r.lines, one.1) (sym p.parts))

      further : (x y z : List ℕ) → IsPrefix x y → IsPrefix x (y ++ z)
      further x y z f = (f.0 ++ z, sym (append_assoc x f.0 z) ∙ ap (λ (l : List ℕ). l ++ z) f.1)

      -- what bytes decide begins each whole text of more bytes, and all that more bytes decide
      pub sure_begins_text : (a more x y : List ℕ) (t : Next S) (e : End) → IsSure m first a t x → IsText m first (a ++ more) e y → IsPrefix x y
      sure_begins_text a more x y (Stops f) e r q = ([], append-nil x ∙ (text_is_one (a ++ more) x y f e (decided a more x f r) q).1)
      sure_begins_text a more x y (GoesOn s) e r q =
          rw q.parts (further x q.lines q.last (begins a x s (all_lines (lines_behind (lines_in a).tail more)) q.here q.lines r (rw (sym (all_joined a more)) q.runs)))

      pub sure_begins_sure : (a more x y : List ℕ) (t u : Next S) → IsSure m first a t x → IsSure m first (a ++ more) u y → IsPrefix x y
      sure_begins_sure a more x y (Stops f) u r q = ([], append-nil x ∙ (sure_is_one (a ++ more) x y (Stops f) u (stays_decided a more x f r) q).1)
      sure_begins_sure a more x y (GoesOn s) u r q =
          rw q.parts (further x q.lines q.last (begins a x s (lines_behind (lines_in a).tail more).whole q.here q.lines r (subst (λ ls. Runs m (GoesOn first) 0 ls q.here q.lines) (ap (λ (l : Lines). l.whole) (lines-append [] a more)) q.runs)))

-- a machine that prints nothing while it goes on
module _ {S : Type 0} (m : Ghosts S) (quiet : IsQuiet m) where
  quiet_by : (o : Option ℕ) (s : S) (n : ℕ) (l : List ℕ) (t : S) (a : List ℕ) → TransitionByCode m o s n l (GoesOn t) a → a ≡ []
  quiet_by (Some code) s n l t a h = absurd (not_end Refused t (sym h.0))
  quiet_by None s n l t a h = quiet s n l t a h

  quiet_run : (s : S) (n : ℕ) (ls : List (List ℕ)) (t : S) (a : List ℕ) → Runs m (GoesOn s) n ls (GoesOn t) a → a ≡ []
  quiet_run s n [] t a h = h.1
  quiet_run s n (l ∷ ls) t a (Stops e, x, y, takes, rest, parts) = absurd (not_end e t (sym (stopped m e (n + 1) ls (GoesOn t) y rest).0))
  quiet_run s n (l ∷ ls) t a (GoesOn v, x, y, takes, rest, parts) = parts ∙ rw (quiet_by (length_code (m.limit_of s) (n + 1) (length l)) s (n + 1) l v x takes, quiet_run v (n + 1) ls t y rest) refl

  pub quiet_sure : (first : S) (a x : List ℕ) (t : S) → IsSure m first a (GoesOn t) x → x ≡ []
  quiet_sure first a x t r =
      let last = goes_on m r.here (length (lines_in a).whole + 1) (lines_in a).tail t r.last r.tail in
      let run = subst (λ v. Runs m (GoesOn first) 0 (lines_in a).whole v r.lines) last.0 r.runs in
      r.parts ∙ rw (quiet_run first 0 (lines_in a).whole t r.lines run, last.1) refl
