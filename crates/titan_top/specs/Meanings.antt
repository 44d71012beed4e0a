-- What each form of words means, in one line.
use Rattle.std.specs.Prelude.{None, Some}
use Rattle.trial_maker.specs.Documents.{document}
use Rattle.model_form.specs.FormMeaning.{FormMeaning}
use Rattle.show_form.specs.ShowMeaning.{show_meaning}
use Rattle.run_form.specs.RunMeaning.{run_meaning}
use Rattle.run_form.specs.declared.notation.Notation.TheVariants.{Summary}
use Rattle.check_form.specs.CheckMeaning.{check_meaning}
use Rattle.migrate_form.specs.MigrateMeaning.{migrate_meaning}
use Rattle.want_form.specs.WantMeaning.{want_meaning}
use Rattle.program_form.specs.ProgramMeaning.{program_meaning}
use Rattle.watch_form.specs.WatchMeaning.{watch_meaning}
use Rattle.titan_top.specs.declared.words.Form.{Form}
use Rattle.titan_top.specs.declared.words.Form.TheVariants.{Run, Show, Trial, Check, Migrate, Want, Watch, Program}

-- what each form means; a trial is a run of the document of its number
abbrev pub meaning_of : Form → FormMeaning
meaning_of (Run notation) = run_meaning notation None
meaning_of Show = show_meaning
meaning_of (Trial seed) = run_meaning (Summary seed) (Some (document seed))
meaning_of Check = check_meaning
meaning_of Migrate = migrate_meaning
meaning_of Want = want_meaning
meaning_of Watch = watch_meaning
meaning_of Program = program_meaning
