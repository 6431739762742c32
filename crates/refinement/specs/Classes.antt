-- A class's take on the words as a call of the model.
use Rattle.model.specs.Calls.{taken}
use Rattle.calls.specs.Take.{Took}
use Rattle.refinement.specs.Direct.{Reply, reply}

abbrev pub take_reply : Took → Reply
take_reply w = reply w.code (taken w.count w.list w.virgin) w.book
