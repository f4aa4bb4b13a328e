use Rattle.std.proofs.Common.{rules}
use Rattle.workorder.proofs.Worked.{figures as order_figures}
use Rattle.chain.proofs.Meaning.{figures as chain_figures}
use Rattle.figures.proofs.LonePasts.{bound_figures, past_figures}
use Rattle.figures.proofs.OnePart.{figures as sweep_figures}
use Rattle.figures.proofs.figures_hold.Goals as goal

pub returns-clause-figures : goal.returns-clause-figures
returns-clause-figures c = record { orders = order_figures; bills = chain_figures; survival = search rules; sweeps = sweep_figures; bound = bound_figures; pasts = past_figures }
