-- `listing::Stand::start` meets its contract. Assumes nothing.
use Rattle.text.specs.Decimal.{ascii}
use Rattle.listing.specs.Listing.{header}
use Rattle.listing.proofs.StandLaws.{begun}
use Rattle.listing.proofs.Stand.start.Goals as goal

pub returns-clause-by_index : goal.returns-clause-by_index
unfolding header ascii
returns-clause-by_index c = λ line. begun c.copy_from_slice.new.self _ c.copy_from_slice.ensures.after
