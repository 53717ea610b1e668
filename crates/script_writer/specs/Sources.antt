-- The process that is written, and the script that it stands in.
use Rattle.script_tree.specs.Processes.{proc_of}
use Rattle.script_grammar.specs.Meaning.{Names}
use Rattle.script.specs.Scripts.{script_of}
use Rattle.script_writer.specs.Plain.{process_names, names_in}
use Rattle.script_writer.specs.declared.names.Source.{Source}

-- what its numbers stand for
abbrev pub source_names : Source → Names
source_names s = names_in (script_of s.script.now).channels (process_names (script_of s.script.now).processes) (proc_of s.process.now)
