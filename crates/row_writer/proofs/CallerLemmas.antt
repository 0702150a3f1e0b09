-- What other crates cite of the proofs here, by topic.

-- The container of rows that is written is read again.
pub use Rattle.row_writer.proofs.ContainerAgain.{container_again}
-- One level of a datum.
pub use Rattle.row_writer.proofs.DatumOut.{array_out, boolean_out, bytes_out, fixed_out, int_out, long_out, null_out, record_out, text_out, union_out, values_is}
-- Rows that are written are read again.
pub use Rattle.row_writer.proofs.RowsAgain.{rows_again}
-- Types that are put together of a few, and a fold over them, which computes.
pub use Rattle.row_writer.proofs.Plans.{Plan, boolean_plan, int_plan, long_plan, bytes_plan, text_plan, date_plan, instant_plan, decimal_plan, pairs_plan, optional_plan, items_plan, record_plan, Plans, no_plans, more_plans, type_of, types_of, fold_plan, fold_plans, plan_folds}
-- One level of such a type.
pub use Rattle.row_writer.proofs.PlanOut.{out_plan, plan_out, null_type_out}
-- Where such a type has a text.
pub use Rattle.row_writer.proofs.PlanNames.{named, named_each, plain_names, plain_fields, named_is}
pub use Rattle.row_writer.proofs.PlanRoom.{nodes, nodes_of, within, all_within, plan_placed}
pub use Rattle.row_writer.proofs.PlanText.{plan_has_text}
-- The types of kinds as plans.
pub use Rattle.row_writer.proofs.KindPlans.{kind_plan, kind_type_is, plan_shape, plan_shapes, kind_nodes, kind_within}
-- The type of a kind has a text.
pub use Rattle.row_writer.proofs.KindText.{kind_plain, after_kind, kind_named, kind_items}
-- A value of a kind fits the kind's type.
pub use Rattle.row_writer.proofs.KindFits.{value_fits}
-- A value that is written in its kind's type is read again.
pub use Rattle.row_writer.proofs.KindLaws.{IsRead, value_read, optional_carried}
-- Values that fit the type of their field.
pub use Rattle.row_writer.proofs.FieldLaws.{option_shape, text_fits, boolean_fits, int_fits, long_fits, bytes_fits, none_fits, some_fits, no_field, more_fields, record_fits, array_fits}
-- Names of ASCII.
pub use Rattle.row_writer.proofs.Ascii.{name_ascii, id_ascii, decimal_name_ascii}
-- Names that stand in a list of names or don't.
pub use Rattle.row_writer.proofs.Begun.{begun_append, one_is}
-- Types of decimals of different fields have different names.
pub use Rattle.row_writer.proofs.ColumnNames.{names_differ}
-- Fields with ids of their own.
pub use Rattle.row_writer.proofs.Apart.{no_column_here, turned}
-- Tests that are joined.
pub use Rattle.row_writer.proofs.Tests.{first, second, both, not_false}
