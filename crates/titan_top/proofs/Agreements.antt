-- Each form does what it means and keeps what it promises; one that reads to the end reads the source, and only a check rejects anything.
use Rattle.std.proofs.Common.{◌≡◌, ℕ, List, None, refl}
use Rattle.model_form.specs.FormMeaning.{FormAgrees, FormKeeps}
use Rattle.show_form.proofs.ShowAgrees.{show_agrees, show_keeps}
use Rattle.run_form.proofs.RunAgrees.{run_agrees}
use Rattle.run_form.proofs.RunKeeps.{run_keeps}
use Rattle.check_form.proofs.CheckAgrees.{check_agrees}
use Rattle.check_form.proofs.CheckKeeps.{check_keeps}
use Rattle.migrate_form.proofs.MigrateAgrees.{migrate_agrees}
use Rattle.migrate_form.proofs.MigrateKeeps.{migrate_keeps}
use Rattle.want_form.proofs.WantForm.{want_agrees, want_keeps}
use Rattle.watch_form.proofs.WatchForm.{watch_agrees, watch_keeps}
use Rattle.program_form.proofs.ProgramAgrees.{program_agrees}
use Rattle.program_form.proofs.ProgramKeeps.{program_keeps}
use Rattle.titan_top.specs.Meanings.{meaning_of}
use Rattle.titan_top.specs.declared.words.Form.{Form}
use Rattle.titan_top.specs.declared.words.Form.TheVariants.{Run, Show, Trial, Check, Migrate, Want, Watch, Program}

pub agrees : (form : Form) → FormAgrees (meaning_of form)
agrees (Run notation) = run_agrees notation _
agrees Show = show_agrees
agrees (Trial seed) = run_agrees _ _
agrees Check = check_agrees
agrees Migrate = migrate_agrees
agrees Want = want_agrees
agrees Watch = watch_agrees
agrees Program = program_agrees

pub keeps : (form : Form) → FormKeeps (meaning_of form)
keeps (Run notation) = run_keeps notation _
keeps Show = show_keeps
keeps (Trial seed) = run_keeps _ _
keeps Check = check_keeps
keeps Migrate = migrate_keeps
keeps Want = want_keeps
keeps Watch = watch_keeps
keeps Program = program_keeps

pub reads_source : (form : Form) → (meaning_of form).reads_to_end → (meaning_of form).made ≡ None
reads_source (Run notation) reads = reads
reads_source Show reads = refl
reads_source (Trial seed) reads = reads
reads_source Check reads = refl
reads_source Migrate reads = refl
reads_source Want reads = refl
reads_source Watch reads = refl
reads_source Program reads = refl

pub only_check_rejects : (form : Form) (input : List ℕ) → (meaning_of form).some_rejected input → form ≡ Check
only_check_rejects (Run notation) input never = absurd never
only_check_rejects Show input never = absurd never
only_check_rejects (Trial seed) input never = absurd never
only_check_rejects Check input h = refl
only_check_rejects Migrate input never = absurd never
only_check_rejects Want input never = absurd never
only_check_rejects Watch input never = absurd never
only_check_rejects Program input never = absurd never
