-- The tasks of the program, and which words order one.
use Rattle.std.specs.Prelude.{ℕ, List, Option}
use Rattle.std.specs.Option.{option_map}
use Rattle.command_run.specs.Orders.{order_of}
use Rattle.command_run.specs.declared.order.Order.{Order}
use Rattle.command_run.specs.declared.order.Order.TheVariants as order
use Rattle.command_run.specs.declared.task.Task.{Task}
use Rattle.command_run.specs.declared.task.Task.TheVariants.{Replay, Demand, Show, Grow, Node, Police}

-- the task of an order
abbrev pub task_for : Order → Task
task_for order.Replay = Replay
task_for order.Demand = Demand
task_for order.Show = Show
task_for (order.Grow seed) = Grow seed
task_for order.Node = Node
task_for order.Police = Police

-- the task of the words after the program's name
abbrev pub task_of : List (List ℕ) → Option Task
task_of words = option_map task_for (order_of words)
