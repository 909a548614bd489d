-- `circulation::search::begin` meets its contract: the order is cleared, and two stores reach s.
use Rattle.circulation.proofs.laws.Columns.{begun, fill_zeros}
use Rattle.circulation.proofs.search.begin.Goals as goal

pub returns : goal.returns
returns c =
    begun c.requires.1 (fill_zeros c.fill.ensures.by_index c.fill.ensures.apart) c.fill.ensures.apart c.put.ensures
    c.put-2.ensures
