pub mod OnSite
