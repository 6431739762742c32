use Rattle.vigbuso.proofs.SizeSteps.{ends-small, ends-medium, ends-large}
use Rattle.vigbuso.proofs.lookup.vigbuso_size_class.Goals as goal

pub returns-in-Small : goal.returns-in-Small
returns-in-Small c = search ends-small

pub returns-in-Medium : goal.returns-in-Medium
returns-in-Medium c = search ends-medium

pub returns-in-TooLarge : goal.returns-in-TooLarge
returns-in-TooLarge c = search ends-large
