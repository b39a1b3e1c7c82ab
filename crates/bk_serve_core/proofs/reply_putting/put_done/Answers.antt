use Rattle.bk_serve_core.proofs.reply_putting.put_done.Goals as goal

pub returns-in-Figures-clause-ok : goal.returns-in-Figures-clause-ok
returns-in-Figures-clause-ok c = rw c.in-Figures.is c.put_reply-in-Figures.ensures.ok
