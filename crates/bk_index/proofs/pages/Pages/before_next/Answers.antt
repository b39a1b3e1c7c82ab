use Rattle.std.proofs.Common.{◌≡◌, ◌+◌, ◌<◌, length, ap, ◌∙◌, arith}
use Rattle.bk_index.proofs.RunPages.{home_of_run-last, home_of_run-next}
use Rattle.bk_index.proofs.pages.Pages.before_next.Goals as goal

pub overflow_add-next : goal.overflow_add-next
overflow_add-next c = omega (arith, ap length c.self.view_is, c.requires.within, c.self.invariant.few)

pub returns-then-next-pages-clause-homes : goal.returns-then-next-pages-clause-homes
returns-then-next-pages-clause-homes c i _ =
    let fences = c.self.inside.fences.items in
    let home = rw (← c.self.view_is) at c.requires.home in
    let sorted = rw (← c.self.view_is) at c.requires.sorted in
    let count : c.len-pages.result ≡ length fences = c.len-pages.ensures ∙ c.self.inside.fences.ok.0 in
    rw (← c.self.view_is)
    (home_of_run-last fences c.self.inside.list.items c.self.invariant sorted c.args.key.now c.args.at home (omega (arith, count, c.if-next-pages.true)) i)

pub returns-then-ledger-clause-homes : goal.returns-then-ledger-clause-homes
returns-then-ledger-clause-homes c i _ =
    let fences = c.self.inside.fences.items in
    let home = rw (← c.self.view_is) at c.requires.home in
    let sorted = rw (← c.self.view_is) at c.requires.sorted in
    let count : c.len-pages.result ≡ length fences = c.len-pages.ensures ∙ c.self.inside.fences.ok.0 in
    let within : c.args.at + 1 < length fences = omega (arith, count, c.if-next-pages.false) in
    rw (← c.self.view_is)
    (home_of_run-next fences c.self.inside.list.items c.self.invariant sorted c.args.key.now c.args.at home c.index.result.now within c.index.ensures i
    (λ same. absurd (omega (arith, same, c.if-ledger.true, c.ledger.ensures.value, c.ledger-2.ensures.value))))

pub returns-clause-homes : goal.returns-clause-homes
returns-clause-homes c i inside =
    let fences = c.self.inside.fences.items in
    let home = rw (← c.self.view_is) at c.requires.home in
    let sorted = rw (← c.self.view_is) at c.requires.sorted in
    let count : c.len-pages.result ≡ length fences = c.len-pages.ensures ∙ c.self.inside.fences.ok.0 in
    let within : c.args.at + 1 < length fences = omega (arith, count, c.if-next-pages.false) in
    let below : c.args.key.now.entry + i < c.index.result.now.entry = omega (arith, inside, c.lesser.ensures.first, c.saturating_sub.ensures, c.entry.ensures.value, c.entry-2.ensures.value) in
    rw (← c.self.view_is)
    (home_of_run-next fences c.self.inside.list.items c.self.invariant sorted c.args.key.now c.args.at home c.index.result.now within c.index.ensures i
    (λ _. below))
