-- `dispatch::State::fits` meets its contract.
use Rattle.dispatch.specs.Sound.{sizes_fit}
use Rattle.dispatch.proofs.State.fits.Goals as goal

pub returns : goal.returns
unfolding sizes_fit
returns c = c.sizes_fit.ensures
