-- Every definition of the rules under one name, for theorems that compute them: `unfolding computed`.
use Rattle.std.specs.Prelude.{ℕ}
use Rattle.rules.specs.Line.{has, ahead}
use Rattle.rules.specs.Buckets.{bucket, around, oldest, scan, join, pop}
use Rattle.rules.specs.Priority.{nr_values, class_number, class_at, cut, from_raw, raw, less, at_most, greater_of, effective, donation_accepted}
use Rattle.rules.specs.Draw.{seed, next_state, draw}
use Rattle.rules.specs.Times.{timeslice, deadline_distance, pay_ticks, effective_priority, either, preferred_cpu, pinned, donated_to, steadied, moving_to_queue, moving_to_active, reset_time, paid_to, critical_at}
use Rattle.rules.specs.Queue.{nr_buckets, width, no_queue, realtime_line, timeshare_line, idle_line, order, load, timeshare_load, empty, movable, part_of, part_for, is_timeshare, realtime_bucket, class_bucket, offset, value_bucket, step_back, timeshare_bucket, bucket_for, join_in, insert, first_in, next_idle, next_timeshare, next, next_take_idx, leave, hand_out, asked, take, advance_insert_index, said_after_put, highest_bucket, highest_value, said_realtime, said_idle, said_timeshare, said_after_take}
use Rattle.rules.specs.Puts.{put_made}
use Rattle.rules.specs.State.{at, any_below, those_below, join_all, is_number, base_limits, with_shortest, idle_priority, new_cpu, new_thread, start, runs_on, waits_on, blocked}
use Rattle.rules.specs.Topology.{nr_nodes, parent_of, children, no_nodes, leaf, upward, above, holds, on_node, cpus_of, visits, visited, nearest_from, nearest}
use Rattle.rules.specs.Choice.{score, lower, find_cpu, first_that, may_steal_from, weigh, extremes, pair_of, choose_cpu_balance}
use Rattle.rules.specs.Schedule.{with_cpu, with_thread, noted, wakeup, with_queue, with_running, set_rebalance, with_preempt, with_draws, with_rebalance_time, with_ticks, one_unless_idle, current_load, current_priority, is_empty, movable_on, priority_running, critical_running, same_cpu, arrival, insert_thread, handed_out, take_thread, reset_thread_time, should_signal, schedule_thread_on_cpu, skips, cpu_of, find_cpu_from_topo, preferred, found_or_any, select_from, select_cpu, choose_cpu_steal_via_topo, moved_for, take_a_thread_from_cpu, steal_from, try_steal, max_steps, received, move_one, balance_pair, balance_step, balance_turns, balance, activated, switch_to, run_stolen, run_taken, pick_next, has_higher, reinserted, reinsert_at, reinsert, do_schedule_of, do_schedule, schedule, needs_reschedule, mark_preempt, paid_by, paid_so_far, schedule_hardtick, rebalance_period, maybe_rebalance, clock, schedule_stattick, schedule_resched, schedule_maybe_preempt, maybe_wakeup, donate_priority}
use Rattle.rules.specs.Requests.{operand, past, at_least, all_ones, widths, sum, operands, nth, pin_of, request, read_operands, read, flags_of}
use Rattle.rules.specs.Questions.{question, open_yet, sealed_now, declared, cpu_declared, cpu_new, cpu_unplaced, pin_declared, thread_declared, thread_new, priority_in_range, at_most as at_most_questions, least_shortest, most_shortest, shortest_in_range, node_exists, parent_without_cpus, node_fits, node_childless, thread_blocked, tick_fits, placed_with, all_placed_below, placed, all_placed, most_accepted, room, concerning, first_no, refusal}
use Rattle.rules.specs.Commands.{nothing_shown, running_of, shown, no_log, refuses, changed, world_of, ran, with_cpu_declared, with_node, with_placed, shortened, scheduled_on, schedules, ran_on, obeys, answered, step, after_calls, history}
use Rattle.rules.specs.Lines.{digits, decimal, space, line_feed, dash, idle_word, header, end_word, number_or_dash, running_or_dash, line, end_line, last_number, used, ends, refused_by, no_bytes, lines_from, output}

unfoldable pub computed : ℕ
unfolding has ahead bucket around oldest scan join pop nr_values class_number class_at cut from_raw raw less at_most greater_of effective donation_accepted seed next_state draw timeslice deadline_distance pay_ticks effective_priority either preferred_cpu pinned donated_to steadied moving_to_queue moving_to_active reset_time paid_to critical_at nr_buckets width no_queue realtime_line timeshare_line idle_line order load timeshare_load empty movable part_of part_for is_timeshare realtime_bucket class_bucket offset value_bucket step_back timeshare_bucket bucket_for join_in insert first_in next_idle next_timeshare next next_take_idx leave hand_out asked take advance_insert_index said_after_put highest_bucket highest_value said_realtime said_idle said_timeshare said_after_take put_made at any_below those_below join_all is_number base_limits with_shortest idle_priority new_cpu new_thread start runs_on waits_on blocked nr_nodes parent_of children no_nodes leaf upward above holds on_node cpus_of visits visited nearest_from nearest score lower find_cpu first_that may_steal_from weigh extremes pair_of choose_cpu_balance with_cpu with_thread noted wakeup with_queue with_running set_rebalance with_preempt with_draws with_rebalance_time with_ticks one_unless_idle current_load current_priority is_empty movable_on priority_running critical_running same_cpu arrival insert_thread handed_out take_thread reset_thread_time should_signal schedule_thread_on_cpu skips cpu_of find_cpu_from_topo preferred found_or_any select_from select_cpu choose_cpu_steal_via_topo moved_for take_a_thread_from_cpu steal_from try_steal max_steps received move_one balance_pair balance_step balance_turns balance activated switch_to run_stolen run_taken pick_next has_higher reinserted reinsert_at reinsert do_schedule_of do_schedule schedule needs_reschedule mark_preempt paid_by paid_so_far schedule_hardtick rebalance_period maybe_rebalance clock schedule_stattick schedule_resched schedule_maybe_preempt maybe_wakeup donate_priority operand past at_least all_ones widths sum operands nth pin_of request read_operands read flags_of question open_yet sealed_now declared cpu_declared cpu_new cpu_unplaced pin_declared thread_declared thread_new priority_in_range at_most_questions least_shortest most_shortest shortest_in_range node_exists parent_without_cpus node_fits node_childless thread_blocked tick_fits placed_with all_placed_below placed all_placed most_accepted room concerning first_no refusal nothing_shown running_of shown no_log refuses changed world_of ran with_cpu_declared with_node with_placed shortened scheduled_on schedules ran_on obeys answered step after_calls history digits decimal space line_feed dash idle_word header end_word number_or_dash running_or_dash line end_line last_number used ends refused_by no_bytes lines_from output
computed = 0
