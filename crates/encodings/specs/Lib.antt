pub mod ClauseLists
