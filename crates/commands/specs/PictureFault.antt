-- How it is reported that a run has no picture.
use Rattle.pictures.specs.declared.page.PageFault.{PageFault}
use Rattle.pictures.specs.declared.page.PageFault.TheVariants as page
use Rattle.trace_text.specs.declared.start.StartFault.{StartFault}
use Rattle.trace_text.specs.declared.start.StartFault.TheVariants as start
use Rattle.workbench.specs.declared.fault.{Fault.Fault, PictureKind.PictureKind}
use Rattle.workbench.specs.declared.fault.Fault.TheVariants as fault

-- if a schedule has no picture of this kind, and if a program can't be loaded
abbrev pub fault_of : PageFault → PictureKind → Fault
fault_of (page.Load f) kind = fault.Load f
fault_of (page.Schedule f) kind = fault.Schedule f
fault_of page.Choices kind = fault.TooLong kind
fault_of page.Trace kind = fault.LongTrace
fault_of page.Memory kind = fault.Memory

abbrev pub start_fault : StartFault → Fault
start_fault (start.Load f) = fault.Load f
start_fault start.Memory = fault.Memory
