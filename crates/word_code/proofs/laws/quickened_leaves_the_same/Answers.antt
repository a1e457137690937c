use Rattle.word_code.proofs.Quickened.{quickened_is_same}
use Rattle.word_code.proofs.laws.quickened_leaves_the_same.Goals as goal

pub returns : goal.returns
returns c = quickened_is_same
