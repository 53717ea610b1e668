use Rattle.std.proofs.Common.{Some, None, arith}
use Rattle.std.proofs.lemmas.Grind.{common_steps}
use Rattle.protocol_values.specs.Words.{course_of}
use Rattle.protocol_values.proofs.WordLemmas.{course_of_only}
use Rattle.protocol_values.proofs.packing.unpack_course.Goals as goal

pub returns-then-pack_course-word-clause-complete : goal.returns-then-pack_course-word-clause-complete
unfolding course_of
returns-then-pack_course-word-clause-complete c = course_of_only (Some c.course_fields-course.result) c.args.word (grind (arith, common_steps))

pub returns-else-ends_in_a_table-clause-complete : goal.returns-else-ends_in_a_table-clause-complete
unfolding course_of
returns-else-ends_in_a_table-clause-complete c = course_of_only None c.args.word (grind (arith, common_steps))
