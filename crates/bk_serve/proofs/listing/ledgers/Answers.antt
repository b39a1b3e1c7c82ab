use Rattle.std.proofs.Common.{refl}
use Rattle.bk_store.specs.LedgerReads.{HasLiveLedger}
use Rattle.bk_serve_core.specs.Replies.{refused}
use Rattle.bk_serve_core.specs.declared.refusal.Refusal.TheVariants as f
use Rattle.bk_serve.specs.Listings.LedgersAnswers.{without_memory, pages}
use Rattle.bk_serve.proofs.Page.{same_page}
use Rattle.bk_serve.proofs.listing.ledgers.Goals as goal

pub returns-in-Ok : goal.returns-in-Ok
returns-in-Ok g c = (
  c.give_page.ensures.0,
  pages c.deref.result.now
      (same_page (HasLiveLedger c.args.store.now) c.args.from _ _ _ _ c.in-Ok.ensures c.page_of.ensures c.deref.ensures.value) c.give_page.ensures.1,
  c.give_page.ensures.2,
)

pub returns-in-Err : goal.returns-in-Err
returns-in-Err g c = (refused f.Memory, without_memory refl, c.encode.ensures.ok)
