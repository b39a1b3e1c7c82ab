use Rattle.std.proofs.Common.{drop, sym, ◌∙◌, arith}
use Rattle.std.proofs.lemmas.Result.{err_from_is_err_and}
use Rattle.bk_head.specs.Ledgers.{map_of}
use Rattle.bk_head.proofs.MapViews.{len-map_of}
use Rattle.bk_inspect.specs.Maps.{HasNoMapIn, SpellsNoMap}
use Rattle.bk_inspect.proofs.Lost.{count_lost, if_always, if_map, place_lost, spelling_lost}
use Rattle.bk_inspect.proofs.Maps.{no_map_in, map_in}
use Rattle.bk_inspect.proofs.written.written_ledgers.Goals as goal

pub returns-in_default-clause-ok : goal.returns-in_default-clause-ok
returns-in_default-clause-ok g c = λ honest.
    no_map_in (g.V.LogView.bytes c.args.view.now) c.max-end.result c.args.header.now c.in_ok-offset.field-0
    (omega (arith, c.max-end.ensures, c.end.ensures honest)) c.in_ok-offset.ensures c.in_default.is

pub returns-clause-ok : goal.returns-clause-ok
returns-clause-ok g c = λ honest.
    map_in (g.V.LogView.bytes c.args.view.now) c.max-end.result c.in-Some.offset c.in-Some.count c.len-found.result c.args.header.now
    c.in_ok-offset.field-0 c.in_ok-map.map (omega (arith, c.max-end.ensures, c.end.ensures honest)) c.in_ok-offset.ensures c.in-Some.is
    (c.in_ok-map.ensures.ok honest) c.len-found.ensures.ordered c.len-found.ensures.len c.if-found-count.false

pub returns-in_err-offset-clause-lost : goal.returns-in_err-offset-clause-lost
returns-in_err-offset-clause-lost g c = λ honest.
    let file = g.V.LogView.bytes c.args.view.now in
    let p = err_from_is_err_and c.from_residual.result c.from_residual.ensures.1 in
    rw p.1 (if_always p.0 (HasNoMapIn file c.args.header.now) (place_lost file c.max-end.result c.args.header.now c.in_err-offset.field-0.0
    (omega (arith, c.max-end.ensures, c.end.ensures honest)) c.in_err-offset.ensures))

pub returns-in_err-map-clause-lost : goal.returns-in_err-map-clause-lost
returns-in_err-map-clause-lost g c = λ honest.
    let file = g.V.LogView.bytes c.args.view.now in
    let p = err_from_is_err_and c.from_residual-in_err-map.result c.from_residual-in_err-map.ensures.1 in
    rw (p.1, p.2) (if_map c.in_err-map.field-0.0 (SpellsNoMap (drop c.in-Some.offset file)) (HasNoMapIn file c.args.header.now)
    (spelling_lost file c.max-end.result c.in-Some.offset c.in-Some.count c.args.header.now c.in_ok-offset.field-0
    (omega (arith, c.max-end.ensures, c.end.ensures honest)) c.in_ok-offset.ensures c.in-Some.is) (c.in_err-map.ensures.err honest))

pub returns-then-found-count-clause-lost : goal.returns-then-found-count-clause-lost
returns-then-found-count-clause-lost g c = λ honest.
    let file = g.V.LogView.bytes c.args.view.now in
    let m = c.in_ok-map.map in
    count_lost file c.max-end.result c.in-Some.offset c.in-Some.count c.args.header.now c.in_ok-offset.field-0 (map_of m)
    (omega (arith, c.max-end.ensures, c.end.ensures honest)) c.in_ok-offset.ensures c.in-Some.is (c.in_ok-map.ensures.ok honest)
    (λ e. c.if-found-count.true (c.len-found.ensures.len ∙ sym (len-map_of m c.len-found.ensures.ordered) ∙ e))
