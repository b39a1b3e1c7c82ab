use Rattle.bk_accounts.proofs.Choices as choices
use Rattle.bk_accounts.proofs.laws.one_choice.Goals as goal

pub returns : goal.returns
returns c = choices.one_choice
