use Rattle.std.proofs.Common.{set, vec_capacity, ap, ◌∙◌}
use Rattle.std.proofs.Math.Seq.{map-set, map-set_same}
use Rattle.successors.proofs.choice_space.ChoiceRows.fill.Goals as goal

pub returns-clause-written : goal.returns-clause-written
returns-clause-written c =
    record {
      row = c.fill_row.new.row.items;
      fits = c.fill_row.ensures.row;
      changes = c.fill_row.ensures.each;
      is = map-set (λ v. v.items) c.self.inside.rows.items c.args.component c.fill_row.new.row ∙ ap (λ rows. set rows c.args.component c.fill_row.new.row.items) (ap (λ r. r.rows) c.self.view_is);
    }

pub returns-clause-rooms : goal.returns-clause-rooms
returns-clause-rooms c =
    map-set_same vec_capacity c.self.inside.rows.items c.args.component c.fill_row.new.row c.index_mut.result.now (c.fill_row.ensures.room ∙ ap vec_capacity c.index_mut.ensures.value)
    ∙ ap (λ r. r.rooms) c.self.view_is
