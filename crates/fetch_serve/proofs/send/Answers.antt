-- `fetch_serve::send` meets its contract: the page is given the rows that remain and says how many it sent. Assumes nothing.
use Rattle.fetch.proofs.Sending.{page_ready, page_sent}
use Rattle.fetch.proofs.Facts.{all_there}
use Rattle.fetch_serve.proofs.send.Goals as goal

pub page-requires : goal.page-requires
page-requires c =
    (rw c.records.ensures (page_ready _ _ _ _ _ c.requires.0 c.requires.1), all_there _ _ _ _ _ c.requires.0)

pub returns : goal.returns
returns c =
    page_sent _ _ _ _ _ c.requires.0 c.requires.1 _ _ _ (rw c.records.ensures at c.page.ensures)
