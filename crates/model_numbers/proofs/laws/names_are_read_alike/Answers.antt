use Rattle.model_numbers.proofs.NumbersBySubject.{names_are_read_alike}
use Rattle.model_numbers.proofs.laws.names_are_read_alike.Goals as goal

pub returns : goal.returns
returns c = names_are_read_alike
