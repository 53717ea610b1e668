-- Which files a request reads.
use Rattle.std.specs.Prelude.{◌≡◌, ℕ, List, Option, None, Some}
use Rattle.std.specs.Option.{option_copied}
use Rattle.pcml_request.specs.declared.request.Request.{Request}
use Rattle.pcml_request.specs.declared.request.Request.TheVariants.{Check, OfJournal, Outcomes, Play, Run, Seek, WhyScript, WhyShort}
use Rattle.pcml_tool.specs.declared.behind.FilesRead.{FilesRead}

-- the file of a script whose first fault it does not tell itself
abbrev pub script_read : Request → Option (List ℕ)
script_read (Run asked) = Some asked.script.now
script_read (Outcomes search) = Some search.script.now
script_read (Seek seeking) = Some seeking.script.now
script_read (Check script) = Some script.now
script_read (OfJournal asked) = Some asked.script.now
script_read asked = None

-- and another one
abbrev pub other_read : Request → Option (List ℕ)
other_read (OfJournal asked) = option_copied asked.journal
other_read (Play file) = Some file.now
other_read (WhyScript file) = Some file.now
other_read (WhyShort file) = Some file.now
other_read asked = None

abbrev pub Are : Option (List ℕ) → Option (List ℕ) → FilesRead → Type 0
Are script other files = (option_copied files.script ≡ script) × (option_copied files.other ≡ other)

-- the files that the request reads
abbrev pub AreReadBy : Request → FilesRead → Type 0
AreReadBy asked files = Are (script_read asked) (other_read asked) files
