use Rattle.bk_store.proofs.OpenedSynced.{both_keep}
use Rattle.bk_store.proofs.open.found.judge_file.Goals as goal

pub returns-in_err-check_header-clause-durable : goal.returns-in_err-check_header-clause-durable
returns-in_err-check_header-clause-durable g c = both_keep c.in_ok-length.ensures.honest c.in_ok-length.ensures.durable c.in_err-check_header.ensures.durable

pub returns-in_ok-check_header-clause-durable : goal.returns-in_ok-check_header-clause-durable
returns-in_ok-check_header-clause-durable g c = both_keep c.in_ok-length.ensures.honest c.in_ok-length.ensures.durable c.in_ok-check_header.ensures.durable
