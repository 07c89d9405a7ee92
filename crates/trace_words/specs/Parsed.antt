-- What a command that was parsed says.
use Rattle.trace_words.specs.Command.{CommandValue, Node, Put, Get, Flush, Deliver, Sync, Retry, Abandon, Remove}
use Rattle.trace_words.specs.Command.{RemoveField, Clear, Fields, Show, Size, Context, Pin, Digest, Save, Crash, Look}
use Rattle.trace_words.specs.declared.command.Command.{Command}
use Rattle.trace_words.specs.declared.command.Command.TheVariants as command

abbrev pub command_value : {A : Type 0} → Command A → CommandValue
command_value (command.Node name) = Node name
command_value (command.Put name key field value) = Put name key.items field.items value.items
command_value (command.Get name key field) = Get name key.items field.items
command_value (command.Flush name) = Flush name
command_value (command.Deliver message name) = Deliver message name
command_value (command.Sync name peer) = Sync name peer
command_value (command.Retry name session) = Retry name session
command_value (command.Abandon name session) = Abandon name session
command_value (command.Remove name key) = Remove name key.items
command_value (command.RemoveField name key field) = RemoveField name key.items field.items
command_value (command.Clear name) = Clear name
command_value (command.Fields name key) = Fields name key.items
command_value (command.Show name) = Show name
command_value (command.Size name) = Size name
command_value (command.Context name) = Context name
command_value (command.Pin name) = Pin name
command_value (command.Digest name) = Digest name
command_value (command.Save name) = Save name
command_value (command.Crash name) = Crash name
command_value (command.Look pin key) = Look pin key.items
