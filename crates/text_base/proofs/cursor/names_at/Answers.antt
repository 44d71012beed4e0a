use Rattle.std.proofs.lemmas.List.{map_push}
use Rattle.text_base.proofs.NameGrammar.{name_grammar}
use Rattle.text_base.proofs.ListsRead.{ends_list, more_list, no_list}
use Rattle.text_base.proofs.cursor.names_at.Goals as goal

pub names-preserved : goal.names-preserved
names-preserved c =
    let h = more_list name_grammar c.names.invariant c.in-Some.name.now _ c.in-Some.ensures _ c.in-Some-next_is.ensures in
    let e = c.in_ok-push.ensures.items in
    rw e (rw map_push h)

pub returns-in-None : goal.returns-in-None
returns-in-None c =
    let h = ends_list name_grammar c.names.invariant c.in-Some.name.now _ c.in-Some.ensures c.in-None.ensures in
    let e = c.in_ok-push.ensures.items in
    rw e (rw map_push h)

pub returns : goal.returns
returns c = no_list name_grammar c.names.invariant c.in_default.ensures
