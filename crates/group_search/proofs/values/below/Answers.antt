use Rattle.std.proofs.Common.{◌&&◌, ◌∙◌, ap}
use Rattle.cca_base.specs.Sets.{has}
use Rattle.cca_base.specs.declared.limits.TheConstants.{MAX_CHOICES}
use Rattle.cca_base.proofs.SetLaws.{has_full, has-and}
use Rattle.group_search.proofs.values.below.Goals as goal

pub returns : goal.returns
returns c a = has-and c.args.word _ a ∙ ap (λ b. has c.args.word a && b) (has_full MAX_CHOICES c.args.value c.requires.small a)
