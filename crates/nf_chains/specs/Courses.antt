-- What statements make of a packet (nft(8), META STATEMENT and NAT STATEMENTS), in the words of the code: the packet as it came, and
-- what rules have made of it.
use Rattle.std.specs.Prelude.{ℕ, List, None, Some, unwrap_or, true, false}
use Rattle.fw_addr.specs.declared.dnat.Dnat.{Dnat}
use Rattle.fw_addr.specs.declared.log.LogLine.{LogLine}
use Rattle.fw_model.specs.declared.packet.Packet.{Packet}
use Rattle.fw_model.specs.declared.packet.Via.{Via}
use Rattle.nf_chains.specs.Hooks.{route, routed_by}
use Rattle.nf_chains.specs.Marks.{marked}
use Rattle.nf_chains.specs.Moments.{Moment}
use Rattle.nf_chains.specs.declared.course.Course.{Course}
use Rattle.nf_eval.specs.Rewrites.{rewritten, unwritten}
use Rattle.nf_eval.specs.declared.rewrite.Rewrite.{Rewrite}

abbrev pub started : Packet → Course
started packet = record { parts = unwritten packet; translation = None; masquerade = false }

-- the packet as it is now
abbrev pub now_is : Packet → Course → Packet
now_is packet course = rewritten course.parts packet

-- the moment of its way, with these lines logged and so many rules looked at
abbrev pub moment : Packet → Course → List LogLine → ℕ → Moment
moment packet course lines looked = record {
  packet = now_is packet course;
  dnat = course.translation;
  masquerade = course.masquerade;
  logs = lines;
  looked_at = looked;
}

abbrev pub marked_so : ℕ → ℕ → Course → Course
marked_so value mask course = record course { parts = record course.parts { mark = marked value mask course.parts.mark } }

abbrev pub sent_so : Dnat → Rewrite → Rewrite
sent_so dnat parts = record parts { dst = unwrap_or dnat.addr parts.dst; dport = unwrap_or dnat.port parts.dport; dnat = true }

abbrev pub translated_so : Dnat → Course → Course
translated_so dnat course = record course { parts = sent_so dnat course.parts; translation = Some dnat }

abbrev pub masqueraded_so : Course → Course
masqueraded_so course = record course { masquerade = true }

-- where it goes now
abbrev pub routed_now : Packet → Course → Via
routed_now packet course = routed_by course.translation (route (now_is packet course))
