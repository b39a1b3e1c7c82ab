use Rattle.std.proofs.Common.{refl, rules}
use Rattle.bk_store.specs.LedgerReads.{HasLiveEntry}
use Rattle.bk_serve_core.specs.Replies.{refused}
use Rattle.bk_serve_core.specs.declared.refusal.Refusal.TheVariants as f
use Rattle.bk_serve.specs.Listings.EntriesAnswers.{bad, gone, without_memory, pages}
use Rattle.bk_serve.proofs.Page.{same_page}
use Rattle.bk_serve.proofs.listing.entries.Goals as goal

pub returns-then-is_negative : goal.returns-then-is_negative
returns-then-is_negative g c = (refused f.Negative, bad (record { negative = search rules; says = refl }), c.encode.ensures.ok)

pub returns-then-is_dead : goal.returns-then-is_dead
returns-then-is_dead g c = (refused f.Deleted, gone (record { dead = cc; says = refl }), c.encode-then-is_dead.ensures.ok)

pub returns-in-Ok : goal.returns-in-Ok
returns-in-Ok g c = (
  c.give_page.ensures.0,
  pages c.deref.result.now (cc)
      (same_page (HasLiveEntry c.args.store.now c.args.ledger) c.args.from _ _ _ _ c.in-Ok.ensures c.page_of.ensures c.deref.ensures.value) c.give_page.ensures.1,
  c.give_page.ensures.2,
)

pub returns-in-Err : goal.returns-in-Err
returns-in-Err g c = (refused f.Memory, without_memory refl, c.encode-in-Err.ensures.ok)
