use Rattle.std.proofs.lemmas.Result.{err_from_is_err_and}
use Rattle.sv_cli.proofs.ReadText.{no_tokens, has_refusal, has_plain, has_tree, no_tree, means, no_form}
use Rattle.sv_cli.proofs.due.read_contract.Goals as goal

pub returns-in_err-tokens : goal.returns-in_err-tokens
returns-in_err-tokens c =
    let unread = no_tokens c.args.text.now c.in_err-tokens.field-0.0 c.in_err-tokens.ensures in
    let e = err_from_is_err_and c.from_residual.result c.from_residual.ensures.1 in
    rw (e.1, e.2) unread

pub returns-in-Some : goal.returns-in-Some
returns-in-Some c = has_refusal c.args.text.now c.in_ok-tokens.tokens c.in_ok-tokens.ensures c.in-Some.refusal c.in-Some.ensures

pub check_tree-requires : goal.check_tree-requires
check_tree-requires c = c.in_default.ensures.1

pub returns-in_err-check_tree : goal.returns-in_err-check_tree
returns-in_err-check_tree c =
    let plain = has_plain c.args.text.now c.in_ok-tokens.tokens c.in_ok-tokens.ensures c.in_default.ensures in
    let unread =
    no_tree c.args.text.now c.in_ok-tokens.tokens c.in_ok-tokens.ensures c.in_err-check_tree.field-0.0 plain c.in_err-check_tree.ensures in
    let e = err_from_is_err_and c.from_residual-in_err-check_tree.result c.from_residual-in_err-check_tree.ensures.1 in
    rw (e.1, e.2) unread

pub returns-in_err-contract : goal.returns-in_err-contract
returns-in_err-contract c =
    let plain = has_plain c.args.text.now c.in_ok-tokens.tokens c.in_ok-tokens.ensures c.in_default.ensures in
    let tree = has_tree c.args.text.now c.in_ok-tokens.tokens c.in_ok-tokens.ensures c.in_ok-check_tree.ensures in
    let unread =
    no_form c.as_slice.result.now c.in_ok-tokens.tokens.list c.as_slice.ensures.shown c.args.text.now plain tree c.in_err-contract.field-0.0
    c.in_err-contract.ensures.unbuilt in
    let e = err_from_is_err_and c.from_residual-in_err-contract.result c.from_residual-in_err-contract.ensures.1 in
    rw (e.1, e.2) unread

pub returns : goal.returns
returns c =
    let plain = has_plain c.args.text.now c.in_ok-tokens.tokens c.in_ok-tokens.ensures c.in_default.ensures in
    let tree = has_tree c.args.text.now c.in_ok-tokens.tokens c.in_ok-tokens.ensures c.in_ok-check_tree.ensures in
    means c.as_slice.result.now c.in_ok-tokens.tokens.list c.as_slice.ensures.shown c.args.text.now plain tree c.in_ok-contract.contract
    c.in_ok-contract.ensures.meaning c.in_ok-contract.ensures.only
