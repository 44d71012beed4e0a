-- What the status of an outcome says of the input, and the other way round.
use Rattle.std.proofs.Common.{◌≡◌, ℕ, ◌⊎◌, inl, inr, List, Option, Some, None, Result, Ok, Err, refl, sym, ap, subst, ◌∙◌}
use Rattle.std.specs.Prelude.{IfSome, IfErr, IsErrOf}
use Rattle.line_machine.specs.declared.machine.End.{End}
use Rattle.line_machine.specs.declared.machine.End.TheVariants as ends
use Rattle.line_machine.specs.declared.send.Cut.{Cut}
use Rattle.line_machine.specs.declared.send.Cut.TheVariants as cuts
use Rattle.model_form.specs.FormMeaning.{promises_of}
use Rattle.model_form.specs.Answers.{Answer}
use Rattle.titan_top.specs.Meanings.{meaning_of}
use Rattle.titan_top.specs.Output.{Outcome, outcome_of, IsOutcomeFor, NothingRefused, SomeRefused, SomeRejected}
use Rattle.titan_top.specs.Statuses.{end_status, cut_status, status_of}
use Rattle.titan_top.specs.Wire.{WritesAs}
use Rattle.titan_top.specs.declared.status.Status.{Status}
use Rattle.titan_top.specs.declared.status.Status.TheVariants.{Ended, Rejected, Refused, ReadFault, Memory}
use Rattle.titan_top.specs.declared.words.Form.{Form}
use Rattle.titan_top.proofs.Agreements.{agrees}

-- ---- ends and statuses

pub end_ended : (e : End) → end_status e ≡ Ended → e ≡ ends.Ended
end_ended ends.Ended h = refl
end_ended ends.Rejected h = absurd cc
end_ended ends.Refused h = absurd cc

pub end_rejected : (e : End) → end_status e ≡ Rejected → e ≡ ends.Rejected
end_rejected ends.Ended h = absurd cc
end_rejected ends.Rejected h = refl
end_rejected ends.Refused h = absurd cc

end_refused : (e : End) → end_status e ≡ Refused → e ≡ ends.Refused
end_refused ends.Ended h = absurd cc
end_refused ends.Rejected h = absurd cc
end_refused ends.Refused h = refl

pub end_not_fault : (e : End) → end_status e ≡ ReadFault → ⊥
end_not_fault ends.Ended h = absurd cc
end_not_fault ends.Rejected h = absurd cc
end_not_fault ends.Refused h = absurd cc

-- ---- what an outcome's status says, and what says it

module _ (form : Form) (input : List ℕ) where
  -- what the form says, where it ends so
  says_at : (a : Answer) (e : End) → a.end ≡ e → promises_of (meaning_of form) input a → promises_of (meaning_of form) input (record { text = a.text; end = e })
  says_at a e is (end, reads, h) = (end, reads, subst (λ (f : End). (meaning_of form).says end f a.text) is h)

  status_end : (o : Outcome) (a : Answer) (t : Status) → o ≡ outcome_of a → o.status ≡ t → end_status a.end ≡ t
  status_end o a t is h = sym (ap (λ (x : Outcome). x.status) is) ∙ h

  ended_by : (o : Outcome) → IsOutcomeFor form input o → o.status ≡ Ended → NothingRefused (Some form) input
  ended_by o (a, is, says) h =
      let (end, reads, own) = says_at a ends.Ended (end_ended a.end (status_end o a Ended is h)) says in
      (agrees form).ended input a.text end reads own

  refused_by : (o : Outcome) → IsOutcomeFor form input o → o.status ≡ Refused → SomeRefused (Some form) input
  refused_by o (a, is, says) h =
      let (end, reads, own) = says_at a ends.Refused (end_refused a.end (status_end o a Refused is h)) says in
      (agrees form).refused input a.text end reads own

  rejected_by : (o : Outcome) → IsOutcomeFor form input o → o.status ≡ Rejected → SomeRejected (Some form) input
  rejected_by o (a, is, says) h =
      let (end, reads, own) = says_at a ends.Rejected (end_rejected a.end (status_end o a Rejected is h)) says in
      (agrees form).rejected input a.text end reads own

  ended_status : (o : Outcome) → IsOutcomeFor form input o → NothingRefused (Some form) input → o.status ≡ Ended
  ended_status o (a, is, (end, reads, says)) h = ap (λ (x : Outcome). x.status) is ∙ ap end_status ((agrees form).is_ended input a.text end reads a.end says h)

  refused_status : (o : Outcome) → IsOutcomeFor form input o → SomeRefused (Some form) input → o.status ≡ Refused
  refused_status o (a, is, (end, reads, says)) h = ap (λ (x : Outcome). x.status) is ∙ ap end_status ((agrees form).is_refused input a.text end reads a.end says h)

  rejected_status : (o : Outcome) → IsOutcomeFor form input o → SomeRejected (Some form) input → o.status ≡ Rejected
  rejected_status o (a, is, (end, reads, says)) h = ap (λ (x : Outcome). x.status) is ∙ ap end_status ((agrees form).is_rejected input a.text end reads a.end says h)

-- ---- what the driver's answer says

-- an answer that is no cut has an outcome with its status
known_end : (e : End) (old now : Option (List ℕ)) (Is : Outcome → Type 0) → WritesAs (end_status e) old now Is → (o : Outcome) × Is o × (o.status ≡ end_status e)
known_end ends.Ended old now Is a = elim a.some [ inl cut ↦ absurd cut | inr (o, is) ↦ (o, is, (a.each o is).0) ]
known_end ends.Rejected old now Is a = elim a.some [ inl cut ↦ absurd cut | inr (o, is) ↦ (o, is, (a.each o is).0) ]
known_end ends.Refused old now Is a = elim a.some [ inl cut ↦ absurd cut | inr (o, is) ↦ (o, is, (a.each o is).0) ]

pub no_cut_ended : (c : Cut) → cut_status c ≡ Ended → ⊥
no_cut_ended cuts.ReadFault h = absurd cc
no_cut_ended cuts.WriteFault h = absurd cc
no_cut_ended cuts.Memory h = absurd cc

no_cut_refused : (c : Cut) → cut_status c ≡ Refused → ⊥
no_cut_refused cuts.ReadFault h = absurd cc
no_cut_refused cuts.WriteFault h = absurd cc
no_cut_refused cuts.Memory h = absurd cc

pub no_cut_rejected : (c : Cut) → cut_status c ≡ Rejected → ⊥
no_cut_rejected cuts.ReadFault h = absurd cc
no_cut_rejected cuts.WriteFault h = absurd cc
no_cut_rejected cuts.Memory h = absurd cc

-- where a form ended, no line was refused
pub form_ended : (form : Form) (r : Result End Cut) (left old now : Option (List ℕ)) → IfSome left (λ b. WritesAs (status_of r) old now (IsOutcomeFor form b)) → status_of r ≡ Ended → IfSome left (NothingRefused (Some form))
form_ended form r None old now h e = tt
form_ended form (Err c) (Some b) old now h e = absurd (no_cut_ended c e)
form_ended form (Ok x) (Some b) old now h e = let k = known_end x old now (IsOutcomeFor form b) h in ended_by form b k.0 k.1 (k.2 ∙ e)

-- where a form was refused, a line was
pub form_refused : (form : Form) (r : Result End Cut) (left old now : Option (List ℕ)) → IfSome left (λ b. WritesAs (status_of r) old now (IsOutcomeFor form b)) → status_of r ≡ Refused → IfSome left (SomeRefused (Some form))
form_refused form r None old now h e = tt
form_refused form (Err c) (Some b) old now h e = absurd (no_cut_refused c e)
form_refused form (Ok x) (Some b) old now h e = let k = known_end x old now (IsOutcomeFor form b) h in refused_by form b k.0 k.1 (k.2 ∙ e)

-- where a form was rejected, a tick had a No
pub form_rejected : (form : Form) (r : Result End Cut) (left old now : Option (List ℕ)) → IfSome left (λ b. WritesAs (status_of r) old now (IsOutcomeFor form b)) → status_of r ≡ Rejected → IfSome left (SomeRejected (Some form))
form_rejected form r None old now h e = tt
form_rejected form (Err c) (Some b) old now h e = absurd (no_cut_rejected c e)
form_rejected form (Ok x) (Some b) old now h e = let k = known_end x old now (IsOutcomeFor form b) h in rejected_by form b k.0 k.1 (k.2 ∙ e)

-- without a fault the status is the outcome's, or memory ran out
status_where : (form : Form) (b : List ℕ) (r : Result End Cut) (t : Status) (old now : Option (List ℕ)) → ((o : Outcome) → IsOutcomeFor form b o → o.status ≡ t) → WritesAs (status_of r) old now (IsOutcomeFor form b) → IfErr r (λ c. c ≡ cuts.Memory) → (status_of r ≡ t) ⊎ (status_of r ≡ Memory)
status_where form b (Ok e) t old now h w k = let x = known_end e old now (IsOutcomeFor form b) w in inl (sym x.2 ∙ h x.0 x.1)
status_where form b (Err c) t old now h w k = inr (ap cut_status k)

pub ended_where : (form : Form) (left : Option (List ℕ)) (r : Result End Cut) (old now : Option (List ℕ)) → IfSome left (λ b. WritesAs (status_of r) old now (IsOutcomeFor form b)) → IfErr r (λ c. c ≡ cuts.Memory)
    → IfSome left (λ b. NothingRefused (Some form) b → (status_of r ≡ Ended) ⊎ (status_of r ≡ Memory))
ended_where form None r old now h k = tt
ended_where form (Some b) r old now h k = λ n. status_where form b r Ended old now (λ o is. ended_status form b o is n) h k

pub refused_where : (form : Form) (left : Option (List ℕ)) (r : Result End Cut) (old now : Option (List ℕ)) → IfSome left (λ b. WritesAs (status_of r) old now (IsOutcomeFor form b)) → IfErr r (λ c. c ≡ cuts.Memory)
    → IfSome left (λ b. SomeRefused (Some form) b → (status_of r ≡ Refused) ⊎ (status_of r ≡ Memory))
refused_where form None r old now h k = tt
refused_where form (Some b) r old now h k = λ n. status_where form b r Refused old now (λ o is. refused_status form b o is n) h k

pub rejected_where : (form : Form) (left : Option (List ℕ)) (r : Result End Cut) (old now : Option (List ℕ)) → IfSome left (λ b. WritesAs (status_of r) old now (IsOutcomeFor form b)) → IfErr r (λ c. c ≡ cuts.Memory)
    → IfSome left (λ b. SomeRejected (Some form) b → (status_of r ≡ Rejected) ⊎ (status_of r ≡ Memory))
rejected_where form None r old now h k = tt
rejected_where form (Some b) r old now h k = λ n. status_where form b r Rejected old now (λ o is. rejected_status form b o is n) h k

complete_by : (r : Result End Cut) (old now : Option (List ℕ)) (Is : Outcome → Type 0) → WritesAs (status_of r) old now Is → IfErr r (λ c. c ≡ cuts.Memory) → ((o : Outcome) × Is o × (status_of r ≡ o.status)) ⊎ (status_of r ≡ Memory)
complete_by (Ok e) old now Is a k = let x = known_end e old now Is a in inl (x.0, x.1, sym x.2)
complete_by (Err c) old now Is a k = inr (ap cut_status k)

pub completes : (left : Option (List ℕ)) (r : Result End Cut) (old now : Option (List ℕ)) (Is : List ℕ → Outcome → Type 0) → IfSome left (λ b. WritesAs (status_of r) old now (Is b)) → IfErr r (λ c. c ≡ cuts.Memory)
    → IfSome left (λ b. ((o : Outcome) × Is b o × (status_of r ≡ o.status)) ⊎ (status_of r ≡ Memory))
completes None r old now Is a k = tt
completes (Some b) r old now Is a k = complete_by r old now (Is b) a k

-- the status of a failed read is that of a cut
pub no_read : (r : Result End Cut) → status_of r ≡ ReadFault → (IsErrOf r cuts.ReadFault → ⊥) → ⊥
no_read (Ok e) h never = end_not_fault e h
no_read (Err cuts.ReadFault) h never = never refl
no_read (Err cuts.WriteFault) h never = absurd cc
no_read (Err cuts.Memory) h never = absurd cc
