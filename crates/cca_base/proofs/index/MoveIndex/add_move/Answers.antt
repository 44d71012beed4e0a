use Rattle.std.proofs.Common.{List, Option, ℕ, ◌-◌, length, take, set, get_or, [], refl, ap, ◌∙◌}
use Rattle.cca_base.proofs.MoveIndexLaws.{taken_again}
use Rattle.cca_base.proofs.index.MoveIndex.add_move.Goals as goal

pub returns-in-Err-clause-err : goal.returns-in-Err-clause-err
returns-in-Err-clause-err c =
    let k = c.args.x.now.command in record {
      by_command = c.take_last.ensures
          ∙ ap (λ (rows : List (List ℕ)). set rows k (take (length (get_or rows k []) - 1) (get_or rows k []))) c.in_ok-put.ensures.ok
          ∙ taken_again c.args.self.now.by_command.items k c.args.number c.requires.command;
      by_component = c.in-Err.ensures.err;
      next = refl {A = List (List (Option ℕ))};
    }
