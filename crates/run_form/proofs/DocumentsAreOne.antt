-- An input says one thing.
use Rattle.std.proofs.Common.{◌≡◌, ℕ, List, [], sym, subst, ◌∙◌}
use Rattle.cca_base.specs.PlantModel.{PlantModel}
use Rattle.model_form.specs.Acceptance.{Acceptance, AcceptedAs, RefusedFor}
use Rattle.model_form.specs.ModelTexts.{ModelText, WholeModel, RefusedModel}
use Rattle.model_form.specs.OneStep.{acceptance_is_one}
use Rattle.model_form.proofs.OneModelText.{texts_are_one}
use Rattle.run_form.specs.Document.{Document, SaysByAcceptance, SaysByEnd}
use Rattle.run_form.specs.RunLaws.{DocumentsAreOne}
use Rattle.run_form.proofs.ReadScripts.{script_one}

accepted_one : (v : Acceptance) (m : PlantModel) (n : ℕ) (ls : List (List ℕ)) (a b : Document) → SaysByAcceptance v m n ls a → SaysByAcceptance v m n ls b → a ≡ b
accepted_one (AcceptedAs c) m n ls a b h k = script_one ls m [] 0 n a b h k
accepted_one (RefusedFor r) m n ls a b h k = h ∙ sym k

end_one : (end : ModelText) (a b : Document) → SaysByEnd end a → SaysByEnd end b → a ≡ b
end_one (WholeModel m n ls) a b (v, is, h) (w, is', k) = accepted_one w m n ls a b (subst (λ (z : Acceptance). SaysByAcceptance z m n ls a) (acceptance_is_one m v w is is') h) k
end_one (RefusedModel m line r) a b h k = h ∙ sym k

-- an input says one thing
pub documents_are_one : DocumentsAreOne
documents_are_one input a b (e, reads, h) (f, reads', k) =
    let same : e ≡ f = texts_are_one input e f reads reads' in
    end_one f a b (subst (λ (x : ModelText). SaysByEnd x a) same h) k
