-- `fetch_serve::fetch` meets its contract: the words of a cursor are as many as an array of them. Assumes nothing.
use Rattle.fetch.proofs.Facts.{size_is}
use Rattle.fetch_serve.proofs.fetch.Goals as goal

pub unreachable-requires : goal.unreachable-requires
unreachable-requires c = c.in_default.ensures.cases (size_is _ _ _ _ _ c.requires)
