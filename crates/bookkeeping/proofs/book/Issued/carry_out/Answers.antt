use Rattle.bookkeeping.proofs.Booking.{carry_out_book}
use Rattle.bookkeeping.proofs.book.Issued.carry_out.Goals as goal

pub invariant_of-result : goal.invariant_of-result
invariant_of-result c = (carry_out_book c.args.self _ c.from.result c.from-2.result c.self.view_is c.from.ensures c.from-2.ensures c.self.invariant).bounded

pub returns-clause-past : goal.returns-clause-past
returns-clause-past c = (carry_out_book c.args.self _ c.from.result c.from-2.result c.self.view_is c.from.ensures c.from-2.ensures c.self.invariant).goes_on
