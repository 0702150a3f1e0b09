use Rattle.std.proofs.Common.{◌≡◌, take}
use Rattle.avro_binary.proofs.copies.+copies.Given as goal

abbrev pub invariant-copy_of_fields-loop-field : goal.invariant-copy_of_fields-loop-field
invariant-copy_of_fields-loop-field l = l.copies.items ≡ take l.field-index l.fields

abbrev pub invariant-copy_of_branches-loop-branch : goal.invariant-copy_of_branches-loop-branch
invariant-copy_of_branches-loop-branch l = l.copies.items ≡ take l.branch-index l.branches
