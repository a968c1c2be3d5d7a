-- `catalogue_check::refusal_of` meets its contract: the check's refusal is the plain parser's. Assumes nothing.
use Rattle.std.proofs.Common.{ap, ◌∙◌}
use Rattle.catalogue.specs.Plain.{refusal_of}
use Rattle.catalogue.proofs.Agree.{refusal_agrees}
use Rattle.catalogue_check.proofs.refusal_of.Goals as goal

pub returns-in-Some : goal.returns-in-Some
returns-in-Some c = ap refusal_of c.in-Some.ensures.answered ∙ refusal_agrees c.args.bytes.now

pub returns-in-None : goal.returns-in-None
returns-in-None c = ap refusal_of c.in-None.ensures.answered ∙ refusal_agrees c.args.bytes.now
