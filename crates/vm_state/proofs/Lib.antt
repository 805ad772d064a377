pub mod Outcomes
pub mod Seen
pub mod Parted
pub mod Facts
pub mod Back
pub mod Plain
pub mod Loading
pub mod Lending
pub mod Built
pub mod Exact
pub mod Formats
mod Alls
mod KeysApart
mod HeapsStand
mod NativesStand
mod OperatorsStand
mod FramesStand
mod UpvaluesStand
mod StatesStand
mod ActsStand
mod StartsStand
mod IsStates
mod RunsStand
mod MachinesStand
mod MachinesGoOn
