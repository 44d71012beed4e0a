-- The model of an input ends in one way.
use Rattle.std.proofs.Common.{◌≡◌, ℕ, ◌+◌, List, [], ◌∷◌, Option, Some, None, sym, subst, ◌∙◌}
use Rattle.cca_base.specs.Refusals.{bare}
use Rattle.line_machine.specs.Lines.{lines_in, all_lines}
use Rattle.model_syntax.specs.Lines.{ModelSoFar, LineOutcome, Reads, Refuses, Finishes}
use Rattle.model_syntax.proofs.OneWay.{lead_one_way}
use Rattle.model_form.specs.FormStates.{nothing_read}
use Rattle.model_form.specs.Limits.{line_code}
use Rattle.model_form.specs.ModelTexts.{ModelText, WholeModel, RefusedModel, LeadsByCode, After, ReadsModel, EndsModel}

pub leads_one : (c : Option ℕ) (s : ModelSoFar) (l : List ℕ) (o p : LineOutcome) → LeadsByCode c s l o → LeadsByCode c s l p → o ≡ p
leads_one (Some code) s l o p h k = h ∙ sym k
leads_one None s l o p h k = lead_one_way s l o p h k

after_one : (o : LineOutcome) (s : ModelSoFar) (n : ℕ) (ls : List (List ℕ)) (a b : ModelText) → ((t : ModelSoFar) → ReadsModel t (n + 1) ls a → ReadsModel t (n + 1) ls b → a ≡ b)
    → After o (λ t. ReadsModel t (n + 1) ls a) (a ≡ WholeModel s.model (n + 1) ls) (λ code. a ≡ RefusedModel s.model (n + 1) (bare code))
    → After o (λ t. ReadsModel t (n + 1) ls b) (b ≡ WholeModel s.model (n + 1) ls) (λ code. b ≡ RefusedModel s.model (n + 1) (bare code)) → a ≡ b
after_one (Reads t) s n ls a b on h k = on t h k
after_one (Refuses code) s n ls a b on h k = h ∙ sym k
after_one Finishes s n ls a b on h k = h ∙ sym k

-- the model of some lines ends in one way
reads_one : (ls : List (List ℕ)) (s : ModelSoFar) (n : ℕ) (a b : ModelText) → ReadsModel s n ls a → ReadsModel s n ls b → a ≡ b
reads_one [] s n a b h k = h ∙ sym k
reads_one (l ∷ ls) s n a b (o, leads, h) (p, leads', k) =
    let same : p ≡ o = leads_one (line_code (n + 1) l) s l p o leads' leads in
    after_one o s n ls a b (λ t. reads_one ls t (n + 1) a b) h
    (subst (λ (x : LineOutcome). After x (λ t. ReadsModel t (n + 1) ls b) (b ≡ WholeModel s.model (n + 1) ls) (λ code. b ≡ RefusedModel s.model (n + 1) (bare code))) same k)

-- the model of an input ends in one way
pub texts_are_one : (input : List ℕ) (a b : ModelText) → EndsModel input a → EndsModel input b → a ≡ b
texts_are_one input a b h k = reads_one (all_lines (lines_in input)) nothing_read 0 a b h k
