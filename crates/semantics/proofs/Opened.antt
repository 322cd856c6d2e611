-- The definitions that the cases open, so that they compute, in bundles: a case names the bundles.
use Rattle.prelude.specs.Bits.{bit_of}
use Rattle.prelude.specs.Choice.{choose, ◌also◌}
use Rattle.prelude.specs.Parts.{joined, sum}
use Rattle.prelude.specs.Rec.{below, turns, rec}
use Rattle.image.specs.Rows.{number_at, word_at, rows_of, row_at}
use Rattle.image.specs.Faults.{first_from, lowest_fault, rule_up_to, all_from}
use Rattle.image.specs.Versions.{scalar_rows, monadics}
use Rattle.values.specs.Values.{kind_of, is_integer, is_set, trap_number, number_of as cell_number, boolean_cell}
use Rattle.values.specs.Values.{integer_cell, set_cell, cell_of, signed_of, constant_of, as_boolean, as_integer, as_set, bind}
use Rattle.kinds.specs.Kinds.{integers_kind, sets_kind, booleans_kind, dyadic_kind, monadic_kind}
use Rattle.integers.specs.Integers.{integer_of, quotient_of, div_of, mod_of, division_of, arithmetic_of}
use Rattle.sets.specs.Sets.{is_element, contains_of, elements_of, range_of, complement_of}
use Rattle.operators.specs.Operators.{compare_of, equal_z, integers_of, sets_of, booleans_of, membership_of, dyadic_of}
use Rattle.operators.specs.Operators.{monadic_of, decides, applied_to}
use Rattle.shapes.specs.Forms.{form_of, form, base_of, count_of, kind_by, kind_in, is_single, of_base, own_types}
use Rattle.shapes.specs.Sizes.{size_by, size_of, layout_by, layout_of, fields_by, fields_of, offset_of}
use Rattle.shapes.specs.Shapes.{used_below, scalar_kept, array_kept, field_kept, base_kept, record_kept, later_kept}
use Rattle.shapes.specs.Shapes.{shape_kept, type_kept}
use Rattle.relations.specs.Extends.{extends_to}
use Rattle.relations.specs.Fields.{field_of}
use Rattle.types.specs.Question.{question4}
use Rattle.header.specs.Header.{question1, question2, question3, table_from, then_table, tables_of, are_six, six_of}
use Rattle.header.specs.Header.{version_of, tables_in, part_of}
use Rattle.frames.specs.Variables.{is_global, kind_within, globals_from, globals_of, form_kept as variable_form}
use Rattle.frames.specs.Variables.{variable_kept, question5}
use Rattle.frames.specs.Procedures.{claimed_by, first_from as first_variable_from, first_variable, body_end, module_kept}
use Rattle.frames.specs.Procedures.{body_kept, own_kept, procedure_kept, question6}
use Rattle.nodes.specs.Nodes.{is_designator, is_argument, child_kept, designator_kept, constant_kept}
use Rattle.nodes.specs.Nodes.{variable_kept as variable_node_kept, field_kept as field_node_kept, element_kept, guard_kept}
use Rattle.nodes.specs.Nodes.{dyadic_kept, monadic_kept, argument_kept, form_kept as node_form, node_kept, question7}
use Rattle.statements.specs.Statements.{begins_at, next_procedure, procedure_at, is_node, target_kept, arguments_kept}
use Rattle.statements.specs.Statements.{assign_kept, call_kept, jump_kept, goto_kept, return_kept, read_kept, value_kept}
use Rattle.statements.specs.Statements.{form_kept as statement_form, last_kept, statement_in, statement_kept, question8}
use Rattle.names.specs.Names.{names_of_node, rows_from, names_of_statement, names_from, names_in, count_in, named_once}
use Rattle.names.specs.Names.{question9}
use Rattle.typing.specs.Typing.{typed, variable_node, field_type, field_node, element_type, element_node, narrows}
use Rattle.typing.specs.Typing.{narrow_node, dyadic_node, monadic_node, type_by, type_of, has_type, question10}
use Rattle.owners.specs.Owners.{gather, gathered, own_variable, own_below}
use Rattle.rules.specs.Rules.{is_type, assignable, assign_rule, form_rule, argument_rule, call_rule, type_rule, halt_rule}
use Rattle.rules.specs.Rules.{rule_by, statement_rule, rules_by, question11}
use Rattle.checker.specs.Check.{yes_or_no, table_question, question_of, asked, first_no, check_of, refusal_of, row_of}
use Rattle.checker.specs.Check.{number_of}
use Rattle.places.specs.Places.{width_by, room_by, global_cells, frame_size, place_in}
use Rattle.semantics.specs.Memory.{mark_of, tagged, cell_at, value_at, mark_at, part_at, overwrite}
use Rattle.semantics.specs.Layout.{owner_from, owner_of, place_of, kinds_of, kinds_from}
use Rattle.semantics.specs.Finding.{reach, content, index, with_mark, parameter_place, variable_place, field_place}
use Rattle.semantics.specs.Finding.{element_place, array_place, guard_place, test_of, designator, meaning_by}
use Rattle.semantics.specs.Finding.{meaning_of, find_of, eval_of}
use Rattle.semantics.specs.Stepping.{on_place, on_value, on_mark, go_to, following, with_cells}
use Rattle.semantics.specs.Stepping.{written, on_part, other_record, copied, assigned, argument_cells, passed}
use Rattle.semantics.specs.Stepping.{entered, called, jumped, returned, input_at, after_read, received, sent}
use Rattle.semantics.specs.Stepping.{halted, perform, step_of}
use Rattle.semantics.specs.Running.{program_of, global_room, first_top, fresh_cells, fresh, asked_by, raised}
use Rattle.semantics.specs.Running.{onward, run_from}
use Rattle.semantics.specs.Running.{refusal, ran_of, numbers_of, refused_with, result_by, store_by, output_by}
use Rattle.semantics.specs.Running.{result_of, store_after, output_after}

-- rows and rules
unfoldable pub rows : Unit {0}
unfolding choose ◌also◌ joined sum below turns rec number_at rows_of row_at first_from lowest_fault rule_up_to all_from
    scalar_rows monadics
rows = tt

-- types: their rules, and their sizes and relations
unfoldable pub shapes : Unit {0}
unfolding used_below scalar_kept array_kept field_kept base_kept record_kept later_kept shape_kept type_kept question4
shapes = tt

unfoldable pub sizes : Unit {0}
unfolding form_of form base_of count_of kind_by kind_in is_single of_base own_types size_by size_of layout_by layout_of fields_by
    fields_of offset_of extends_to field_of
sizes = tt

-- values
unfoldable pub integers : Unit {0}
unfolding is_integer trap_number integer_of quotient_of div_of mod_of division_of arithmetic_of compare_of equal_z is_element range_of
    integers_of
integers = tt

unfoldable pub operators : Unit {0}
unfolding as_boolean as_integer as_set bind bit_of contains_of elements_of complement_of sets_of booleans_of membership_of
    dyadic_of monadic_of decides applied_to
operators = tt

unfoldable pub values : Unit {0}
unfolding kind_of is_set cell_number boolean_cell integer_cell set_cell cell_of signed_of constant_of
values = tt

-- the check
unfoldable pub tables : Unit {0}
unfolding version_of word_at question1 question2 question3 table_from then_table tables_of are_six six_of tables_in part_of
tables = tt

unfoldable pub bodies : Unit {0}
unfolding is_global kind_within globals_from globals_of variable_form variable_kept question5 claimed_by
    first_variable_from first_variable body_end module_kept body_kept own_kept procedure_kept question6
bodies = tt

unfoldable pub nodes : Unit {0}
unfolding is_designator is_argument child_kept designator_kept constant_kept variable_node_kept field_node_kept
    element_kept guard_kept dyadic_kept monadic_kept argument_kept node_form node_kept question7
nodes = tt

unfoldable pub statements : Unit {0}
unfolding begins_at next_procedure procedure_at is_node target_kept arguments_kept assign_kept call_kept jump_kept
    goto_kept return_kept read_kept value_kept statement_form last_kept statement_in statement_kept question8
statements = tt

unfoldable pub names : Unit {0}
unfolding names_of_node rows_from names_of_statement names_from names_in count_in named_once question9
names = tt

unfoldable pub typing : Unit {0}
unfolding integers_kind sets_kind booleans_kind dyadic_kind monadic_kind typed variable_node field_type field_node
    element_type element_node narrows narrow_node dyadic_node monadic_node type_by type_of has_type question10
typing = tt

unfoldable pub rules : Unit {0}
unfolding gather gathered own_variable own_below is_type assignable assign_rule form_rule argument_rule call_rule
    type_rule halt_rule rule_by statement_rule rules_by question11
rules = tt

unfoldable pub check : Unit {0}
unfolding rows shapes sizes tables bodies nodes statements names typing rules yes_or_no table_question question_of
    asked first_no check_of refusal_of row_of number_of
check = tt

-- the machine
unfoldable pub memory : Unit {0}
unfolding mark_of tagged cell_at value_at mark_at part_at overwrite width_by room_by global_cells frame_size place_in
    owner_from owner_of place_of kinds_of kinds_from
memory = tt

unfoldable pub finding : Unit {0}
unfolding reach content index with_mark parameter_place variable_place field_place element_place array_place
    guard_place test_of designator meaning_by meaning_of find_of eval_of
finding = tt

unfoldable pub stepping : Unit {0}
unfolding on_place on_value on_mark go_to following with_cells written on_part other_record copied
    assigned argument_cells passed entered called jumped returned input_at after_read received sent halted perform
    step_of
stepping = tt

-- the whole run, the check before it
unfoldable pub run : Unit {0}
unfolding check integers operators values memory finding stepping program_of global_room first_top fresh_cells fresh
    asked_by raised onward run_from refusal ran_of numbers_of refused_with result_by store_by output_by result_of store_after output_after
run = tt
