use Rattle.model_syntax.proofs.PrintedModel.{model_read, lines_whole}
use Rattle.model_syntax.proofs.print_laws.printed_models_read_back.Goals as goal

pub returns : goal.returns
returns c = record { back = model_read; whole = lines_whole }
