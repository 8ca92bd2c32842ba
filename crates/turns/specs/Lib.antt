pub mod Run
pub mod ScriptsView
pub mod MachineView
