use Rattle.std.proofs.Common.{add-one}
use Rattle.kind_values.proofs.Written.{int_again, long_again, signed_again, in_again}
use Rattle.kind_values.proofs.byte_laws.a_written_number_is_read_again.Goals as goal

pub returns : goal.returns
returns c = record {
  int = int_again;
  long = long_again;
  signed = signed_again;
  sized = λ more n lt. rw add-one (in_again more n lt);
}
