use Rattle.std.proofs.lemmas.Result.{err_from_is_err_and}
use Rattle.fdl_parser.specs.Tokens.{Unread}
use Rattle.fdl_parser.proofs.SameItems.{trees_are_one}
use Rattle.fdl_parser.specs.Items.{NoItem, MoreItems}
use Rattle.fdl_parser.proofs.Rows.{read_whole, names_one}
use Rattle.fdl_parser.proofs.StopsItems.{refuses_item, refused_first, refused_none, some_left}
use Rattle.fdl_parser.proofs.items.parse.Goals as goal

pub loop-cursor-init : goal.loop-cursor-init
loop-cursor-init c = rw (c.new-cursor.ensures, c.as_slice.ensures, c.new-items.ensures) (record { read = NoItem; within = Unread })

pub loop-cursor-preserved : goal.loop-cursor-preserved
loop-cursor-preserved c = record {
  read = rw c.in_ok-push.ensures.ok (MoreItems c.loop-cursor.invariant.read c.in_ok-text_item.ensures.read);
  within = c.text_item.ensures.within _ c.loop-cursor.invariant.within;
}

pub returns-clause-tree : goal.returns-clause-tree
returns-clause-tree c = read_whole _ _ _ c.loop-cursor.invariant.read _ c.is_at_end.ensures c.loop-cursor-test.false

pub returns-clause-one : goal.returns-clause-one
returns-clause-one c = λ lexed other is.
    trees_are_one _ _ _ other lexed (read_whole _ _ _ c.loop-cursor.invariant.read _ c.is_at_end.ensures c.loop-cursor-test.false) is

pub returns-in_err-text_item-clause-names : goal.returns-in_err-text_item-clause-names
returns-in_err-text_item-clause-names c =
    let p = err_from_is_err_and c.from_residual.result c.from_residual.ensures.1 in
    rw (p.1, p.2) (names_one _ _ _ (c.text_item.ensures.within _ c.loop-cursor.invariant.within) c.in_err-text_item.ensures.names)

pub returns-in_err-text_item-clause-first : goal.returns-in_err-text_item-clause-first
returns-in_err-text_item-clause-first c =
    let p = err_from_is_err_and c.from_residual.result c.from_residual.ensures.1 in
    rw (p.1, p.2) (refused_first _ _ _ c.text_item.new.self (c.text_item.ensures.within _ c.loop-cursor.invariant.within) c.in_err-text_item.ensures.names (refuses_item c.loop-cursor.invariant.read (some_left _ _ c.is_at_end.ensures c.loop-cursor-test.true) c.in_err-text_item.ensures.stops))

pub returns-in_err-text_item-clause-none : goal.returns-in_err-text_item-clause-none
returns-in_err-text_item-clause-none c =
    let p = err_from_is_err_and c.from_residual.result c.from_residual.ensures.1 in
    rw (p.1, p.2) (refused_none _ _ _ (refused_first _ _ _ c.text_item.new.self (c.text_item.ensures.within _ c.loop-cursor.invariant.within) c.in_err-text_item.ensures.names (refuses_item c.loop-cursor.invariant.read (some_left _ _ c.is_at_end.ensures c.loop-cursor-test.true) c.in_err-text_item.ensures.stops)))
