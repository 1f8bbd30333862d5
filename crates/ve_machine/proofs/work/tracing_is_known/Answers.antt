use Rattle.std.proofs.Common.{nat_eq}
use Rattle.ve_theory.specs.Combinations.{unit}
use Rattle.ve_theory.specs.Presentations.{relator, submodule_relation}
use Rattle.ve_theory.proofs.Sums.{weights_from_Alike, Decides-nat_eq}
use Rattle.ve_vec.specs.Tracing.{vector_times_element, vector_of}
use Rattle.ve_table.specs.Tables.{presented, row_at}
use Rattle.ve_machine.specs.Forwards.{image_difference}
use Rattle.ve_machine.proofs.work.tracing_is_known.Goals as goal
use Rattle.ve_machine.proofs.RowsAtWork.{image_forwarded}
use Rattle.ve_machine.proofs.Tracing.{relator_known, submodule_known}

pub returns : goal.returns
returns c = λ O T opening sound under. record {
  relators = λ b number v known inside within same forwarding.
      relator_known O T sound under b number v known inside within
      (weights_from_Alike nat_eq Decides-nat_eq (presented O).prime v (vector_times_element (row_at T) (unit b) (relator (presented O) number)) same) forwarding;
  submodule = λ number v inside within same forwarding.
      submodule_known O T sound under number v inside within
      (weights_from_Alike nat_eq Decides-nat_eq (presented O).prime v (vector_of (row_at T) T.images (submodule_relation (presented O) number)) same) forwarding;
  images = λ b x f v dead due same forwarding.
      image_forwarded O T sound under b x v (weights_from_Alike nat_eq Decides-nat_eq (presented O).prime v (image_difference (presented O).prime (row_at T) T.forwards b x) same) forwarding;
}
