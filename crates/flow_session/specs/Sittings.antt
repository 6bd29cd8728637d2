-- A session as the machine sees it: its state, and the text of an IMPORT that isn't ended yet.
use Rattle.machine.specs.Scripts.{Sitting}
use Rattle.machine_laws.specs.Viewed.{view}
use Rattle.flow_session.specs.Inputs.{unended}
use Rattle.flow_session.specs.declared.serving.Session.{Session}

-- a session as the machine sees it
abbrev pub sitting : Session → Sitting
sitting s = record { state = view s.core; unended = unended s }
