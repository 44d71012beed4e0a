-- What the end of a form that reads a document whole says of its document, and the other way round.
use Rattle.std.proofs.Common.{◌≡◌, ℕ, Bool, List, [], refl, sym, ap, subst, ◌∙◌}
use Rattle.cca_base.specs.Accepted.{CompiledModel}
use Rattle.cca_base.specs.PlantModel.{PlantModel}
use Rattle.cca_base.specs.declared.events.Refusal.{Refusal}
use Rattle.line_machine.specs.declared.machine.End.{End}
use Rattle.line_machine.specs.declared.machine.End.TheVariants.{Ended, Rejected, Refused}
use Rattle.model_form.specs.Acceptance.{Acceptance, AcceptedAs, RefusedFor, IsAcceptanceOf}
use Rattle.model_form.specs.Answers.{Saying, AnswersByAcceptance, AnswersByEnd}
use Rattle.model_form.specs.ModelTexts.{ModelText, WholeModel, RefusedModel, EndsModel}
use Rattle.run_form.specs.Document.{Document, DocumentEnd, Complete, RefusedAt, SaysScript, SaysByEnd, IsReadWhole, HasRefusedLine, refused_at}
use Rattle.run_form.proofs.DocumentsAreOne.{documents_are_one}

-- how a form ends whose document ends so
abbrev pub end_of : DocumentEnd → End
end_of Complete = Ended
end_of (RefusedAt line r) = Refused

ended_whole : (e : DocumentEnd) → end_of e ≡ Ended → e ≡ Complete
ended_whole Complete h = refl
ended_whole (RefusedAt line r) h = absurd cc

refused_somewhere : (e : DocumentEnd) → end_of e ≡ Refused → (line : ℕ) × (r : Refusal) × (e ≡ RefusedAt line r)
refused_somewhere Complete h = absurd cc
refused_somewhere (RefusedAt line r) h = (line, r, refl)

end_not : (e : DocumentEnd) → end_of e ≡ Rejected → ⊥
end_not Complete h = absurd cc
end_not (RefusedAt line r) h = absurd cc

-- the script says a document, and the form ends as that does
abbrev pub EndsAsDocument : CompiledModel → ℕ → List (List ℕ) → End → Type 0
EndsAsDocument b n ls e = (r : Document) × SaysScript b.model [] 0 n ls r × (e ≡ end_of r.ending)

module _ (json : Bool) (Says : Saying) (of_script : (b : CompiledModel) (n : ℕ) (ls : List (List ℕ)) (e : End) (text : List ℕ) → Says b n ls e text → EndsAsDocument b n ls e) where
  -- the document of what is printed
  pub record IsDocumentOf (end : ModelText) (e : End) : Type 0 where
    pub document : Document
    pub says : SaysByEnd end document
    pub ends : e ≡ end_of document.ending

  behind_document : (v : Acceptance) (m : PlantModel) (n : ℕ) (ls : List (List ℕ)) (e : End) (text : List ℕ) → IsAcceptanceOf m v → AnswersByAcceptance json Says v m n ls e text → IsDocumentOf (WholeModel m n ls) e
  behind_document (AcceptedAs b) m n ls e text is h =
      let (r, says, same) = of_script b n ls e text h in
      record { document = r; says = (AcceptedAs b, is, subst (λ (k : PlantModel). SaysScript k [] 0 n ls r) is.1 says); ends = same }
  behind_document (RefusedFor rf) m n ls e text is h = record { document = refused_at m n rf; says = (RefusedFor rf, is, refl); ends = h.0 }

  pub the_document : (end : ModelText) (e : End) (text : List ℕ) → AnswersByEnd json Says end e text → IsDocumentOf end e
  the_document (WholeModel m n ls) e text (v, is, h) = behind_document v m n ls e text is h
  the_document (RefusedModel m line r) e text h = record { document = refused_at m line r; says = refl; ends = h.0 }

  module _ (input text : List ℕ) (end : ModelText) (reads : EndsModel input end) where
    -- this is printed
    abbrev Prints : End → Type 0
    Prints e = AnswersByEnd json Says end e text

    pub document_ended : Prints Ended → IsReadWhole input
    document_ended is = let d = the_document end Ended text is in (d.document, (end, reads, d.says), ended_whole d.document.ending (sym d.ends))

    pub document_refused : Prints Refused → HasRefusedLine input
    document_refused is = let d = the_document end Refused text is in (d.document, (end, reads, d.says), refused_somewhere d.document.ending (sym d.ends))

    pub document_not_rejected : Prints Rejected → ⊥
    document_not_rejected is = let d = the_document end Rejected text is in end_not d.document.ending (sym d.ends)

    -- ---- and what the document says of the end

    pub document_is_ended : (e : End) → Prints e → IsReadWhole input → e ≡ Ended
    document_is_ended e is (r, document, complete) =
        let d = the_document end e text is in
        let same : d.document ≡ r = documents_are_one input d.document r (end, reads, d.says) document in
        d.ends ∙ ap (λ (x : Document). end_of x.ending) same ∙ ap end_of complete

    pub document_is_refused : (e : End) → Prints e → HasRefusedLine input → e ≡ Refused
    document_is_refused e is (r, document, (line, rf, at)) =
        let d = the_document end e text is in
        let same : d.document ≡ r = documents_are_one input d.document r (end, reads, d.says) document in
        d.ends ∙ ap (λ (x : Document). end_of x.ending) same ∙ ap end_of at
