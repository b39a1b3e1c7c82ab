use Rattle.std.proofs.Common.{◌≡◌, length, is_some, ap, ◌∙◌, arith, rules}
use Rattle.std.specs.FinMap.{from_sorted}
use Rattle.std.proofs.lemmas.Result.{err_from_is_err_and}
use Rattle.bk_cache.proofs.KeptPairs.{used_is, many, get_is, put_is, kept_put}
use Rattle.bk_cache.proofs.cache.Cache.put.Goals as goal

-- an allocation failed
pub returns-in_err-put : goal.returns-in_err-put
returns-in_err-put c =
    let told = err_from_is_err_and c.from_residual.result c.from_residual.ensures.1 in
    rw told.1 (record {
      transition = (
        get_is c.self.inside.rows c.self.inside.len c.self.inside.used c.self.invariant c.args.self.now c.self.view_is c.args.key ∙ c.in_err-put.ensures.0,
        ap from_sorted c.in_err-put.ensures.1 ∙ c.self.view_is,
      );
    })

-- the cache has the key
pub returns-then-not-branch : goal.returns-then-not-branch
returns-then-not-branch c =
    let turn = rw c.if-not-branch.true at c.in_ok-put.ensures in
    record {
      transition = (
        ap is_some (get_is c.self.inside.rows c.self.inside.len c.self.inside.used c.self.invariant c.args.self.now c.self.view_is c.args.key) ∙ turn.0,
        ap from_sorted turn.1 ∙ c.self.view_is,
      );
    }

pub overflow_add-self : goal.overflow_add-self
overflow_add-self c = omega (arith, many c.self.inside.rows c.self.inside.len c.self.inside.used c.self.invariant)

pub overflow_add-self-2 : goal.overflow_add-self-2
overflow_add-self-2 c =
    let size : c.len-size.result ≡ length c.args.payload.value.items = search rules in
    let used = used_is c.self.inside.rows c.self.inside.len c.self.inside.used c.self.invariant c.args.self.now c.self.view_is in
    omega (arith, size, used, c.requires.fits)

-- the payload is added
pub invariant_of-self-2 : goal.invariant_of-self-2
invariant_of-self-2 c =
    let turn = rw c.if-not-branch.false at c.in_ok-put.ensures in
    let size : c.len-size.result ≡ length c.args.payload.value.items = search rules in
    rw (size, turn.1)
    (kept_put c.self.inside.rows c.self.inside.len c.self.inside.used c.self.invariant c.args.key c.args.payload.value.items c.requires.keyed turn.0)

pub returns : goal.returns
returns c =
    let turn = rw c.if-not-branch.false at c.in_ok-put.ensures in
    record {
      transition = (
        get_is c.self.inside.rows c.self.inside.len c.self.inside.used c.self.invariant c.args.self.now c.self.view_is c.args.key ∙ turn.0,
        ap from_sorted turn.1
            ∙ put_is c.self.inside.rows c.self.inside.len c.self.inside.used c.self.invariant c.args.self.now c.self.view_is c.args.key
            c.args.payload.value.items,
      );
    }
