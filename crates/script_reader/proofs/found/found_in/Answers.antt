use Rattle.std.proofs.Common.{◌∙◌}
use Rattle.text_base.specs.Pairs.{shown_pair}
use Rattle.script_reader.proofs.PairsRead.{no_pair, last_pair, no_comma, more_pairs, less_ahead}
use Rattle.script_reader.proofs.found.found_in.Goals as goal

pub returns-then-is_empty-clause-found : goal.returns-then-is_empty-clause-found
returns-then-is_empty-clause-found c =
    let k = c.args.context.now in
    let r = c.pairs.invariant.read in
    last_pair c.args.naming k.model k.pending.now k.mirrored c.args.start c.pairs.ahead c.pairs.found c.pairs.pairs.items r (shown_pair c.in-Some.named) c.in-Some.behind c.in-Some.ensures c.note-found.result c.note-found.new.pairs.items
    c.if-is_empty.ensures (c.note-found.ensures.found r.named r.found)

pub returns-in_default-next_is-clause-found : goal.returns-in_default-next_is-clause-found
returns-in_default-next_is-clause-found c =
    let k = c.args.context.now in
    no_comma c.args.naming k.model k.pending.now k.mirrored c.args.start c.pairs.ahead c.pairs.found c.pairs.pairs.items c.pairs.invariant.read (shown_pair c.in-Some.named) c.in-Some.behind c.in-Some.ensures c.note-found.new.pairs.items
    c.if-is_empty.ensures c.in_default-next_is.ensures

pub pairs-smaller : goal.pairs-smaller
pairs-smaller c =
    let k = c.args.context.now in
    less_ahead c.args.naming k.model k.pending.now k.mirrored c.args.start c.pairs.ahead c.pairs.found c.pairs.pairs.items c.pairs.invariant.read (shown_pair c.in-Some.named) c.in-Some.behind c.in-Some.ensures _ c.in-Some-next_is.ensures

pub pairs-preserved : goal.pairs-preserved
pairs-preserved c =
    let k = c.args.context.now in
    let r = c.pairs.invariant.read in
    record {
      read = more_pairs c.args.naming k.model k.pending.now k.mirrored c.args.start c.pairs.ahead c.pairs.found c.pairs.pairs.items r (shown_pair c.in-Some.named) c.in-Some.behind c.in-Some.ensures _ c.note-found.result c.note-found.new.pairs.items
          c.in-Some-next_is.ensures (c.note-found.ensures.found r.named r.found);
      room = c.note-found.ensures.room ∙ c.pairs.invariant.room;
    }

pub returns-clause-found : goal.returns-clause-found
returns-clause-found c =
    let k = c.args.context.now in
    no_pair c.args.naming k.model k.pending.now k.mirrored c.args.start c.pairs.ahead c.pairs.found c.pairs.pairs.items c.pairs.invariant.read c.pairs.pairs.items c.in_default.ensures
